use Rattle.std.proofs.Common.{◌≡◌, length}
use Rattle.seq_accounting.specs.Marks.{number_of}
use Rattle.seq_accounting.specs.Branch.{linked}
use Rattle.seq_accounting.proofs.marks.Marks.get.Given as goal

-- the number is what it is from the link on
abbrev pub invariant-loop-link : goal.invariant-loop-link
invariant-loop-link l = number_of (linked l.link) l.region l.family ≡ number_of l.self l.region l.family

abbrev pub decreases-loop-link : goal.decreases-loop-link
decreases-loop-link l = length (linked l.link)
