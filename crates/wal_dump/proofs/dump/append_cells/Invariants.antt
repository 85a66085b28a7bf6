use Rattle.std.proofs.Common.{◌≡◌, ◌++◌, take}
use Rattle.std.specs.List.{flat_map}
use Rattle.cell_model.specs.Cell.{Cell}
use Rattle.script_model.specs.Report.{cell_line}
use Rattle.wal_dump.proofs.dump.append_cells.Given as goal

abbrev pub invariant-loop-cell : goal.invariant-loop-cell
invariant-loop-cell l = l.out.items ≡ l.initial.out.items ++ flat_map (λ (c : Cell). cell_line (l.number, c)) (take l.cell-index l.cells)
