use Rattle.std.proofs.Common.{length}
use Rattle.seq_accounting.specs.Branch.{linked}
use Rattle.seq_accounting.proofs.marks.+pour_all.Given as goal

abbrev pub decreases-pour_all : goal.decreases-pour_all
decreases-pour_all l = length (linked l.link)
