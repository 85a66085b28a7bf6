use Rattle.std.proofs.Common.{◌≡◌, ◌++◌, length}
use Rattle.region_lock.proofs.scan.cells_of.Given as goal

abbrev pub invariant-sharing : goal.invariant-sharing
invariant-sharing l = l.cells ++ l.walk ≡ l.initial.cells ++ l.initial.walk

abbrev pub decreases-sharing : goal.decreases-sharing
decreases-sharing l = length l.walk
