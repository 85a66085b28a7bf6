use Rattle.std.proofs.Common.{length}
use Rattle.examples.proofs.region.print_version.Given as goal

-- each round takes one cell of the walk
abbrev pub decreases-loop-number : goal.decreases-loop-number
decreases-loop-number g l = length l.walk
