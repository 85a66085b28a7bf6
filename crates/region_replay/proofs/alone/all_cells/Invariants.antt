use Rattle.std.proofs.Common.{◌≡◌}
use Rattle.region_replay.specs.Dealt.{cells_of}
use Rattle.region_replay.proofs.alone.all_cells.Given as goal

abbrev pub invariant-loop-store : goal.invariant-loop-store
invariant-loop-store l = l.cells ≡ cells_of l.yielded
