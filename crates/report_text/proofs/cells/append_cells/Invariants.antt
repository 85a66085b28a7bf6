use Rattle.std.proofs.Common.{◌≡◌, ◌++◌, take}
use Rattle.std.specs.List.{flat_map, AllByRecursion}
use Rattle.script_model.specs.Report.{cell_line}
use Rattle.report_text.specs.Reading.{IsNumberedCell}
use Rattle.report_text.proofs.cells.append_cells.Given as goal

abbrev pub invariant-loop-row : goal.invariant-loop-row
invariant-loop-row l = (l.out.items ≡ l.initial.out.items ++ flat_map cell_line (take l.row-index l.rows)) × AllByRecursion IsNumberedCell (take l.row-index l.rows)
