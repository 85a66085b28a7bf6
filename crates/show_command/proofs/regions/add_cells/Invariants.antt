use Rattle.std.proofs.Common.{◌≡◌, ◌++◌}
use Rattle.cell_model.specs.Merge.{at_number}
use Rattle.show_command.proofs.regions.add_cells.Given as goal

abbrev pub invariant-loop-cell : goal.invariant-loop-cell
invariant-loop-cell l = l.list ≡ l.initial.list ++ at_number l.number l.yielded
