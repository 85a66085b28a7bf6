use Rattle.std.proofs.Common.{◌≡◌, ◌++◌}
use Rattle.region_replay.proofs.dealing.push_cells.Given as goal

abbrev pub invariant-loop-pair : goal.invariant-loop-pair
invariant-loop-pair l = l.cells ≡ l.initial.cells ++ l.yielded
