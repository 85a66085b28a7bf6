use Rattle.std.proofs.Common.{◌≡◌, ◌++◌}
use Rattle.cell_model.specs.Merge.{at_number}
use Rattle.wal_split.specs.Flushed.{flushed_of}
use Rattle.region_replay.specs.Bases.{cells_above}
use Rattle.region_replay.proofs.gathering.push_above.Given as goal

abbrev pub invariant-loop-cell : goal.invariant-loop-cell
invariant-loop-cell l = l.cells ≡ l.initial.cells ++ at_number l.number (cells_above (flushed_of l.flushed) l.number l.yielded)
