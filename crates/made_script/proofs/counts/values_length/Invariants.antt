use Rattle.std.proofs.Common.{◌≡◌, ◌≤◌, ◌*◌, take, sum_by}
use Rattle.made_script.specs.Counts.{value_length}
use Rattle.made_script.proofs.counts.values_length.Given as goal

-- the values of the cells so far
abbrev pub invariant-loop-cell : goal.invariant-loop-cell
invariant-loop-cell l = record { so_far : l.total ≡ sum_by value_length (take l.cell-index l.cell-items); most : l.total ≤ l.cell-index * 65536 }
