use Rattle.std.proofs.Common.{length}
use Rattle.seq_accounting.specs.Branch.{linked}
use Rattle.seq_accounting.proofs.marks.+note_all.Given as goal

abbrev pub decreases-note_all : goal.decreases-note_all
decreases-note_all l = length (linked l.link)
