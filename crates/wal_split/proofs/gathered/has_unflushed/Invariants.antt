use Rattle.std.proofs.Common.{◌≤◌, Contains, take}
use Rattle.cell_model.specs.Cell.{Cell}
use Rattle.wal_split.specs.Flushed.{flushed_of}
use Rattle.wal_split.proofs.gathered.has_unflushed.Given as goal

abbrev pub invariant-loop-cell : goal.invariant-loop-cell
invariant-loop-cell l = (c : Cell) → Contains (take l.cell-index l.cells) c → l.number ≤ flushed_of l.flushed c.family
