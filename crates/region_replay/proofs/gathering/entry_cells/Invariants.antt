use Rattle.std.proofs.Common.{◌≡◌}
use Rattle.wal_split.specs.Flushed.{flushed_of}
use Rattle.region_replay.specs.Bases.{entries_cells}
use Rattle.region_replay.proofs.gathering.entry_cells.Given as goal

abbrev pub invariant-loop-entry : goal.invariant-loop-entry
invariant-loop-entry l = l.cells ≡ entries_cells (flushed_of l.flushed) l.yielded
