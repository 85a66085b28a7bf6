use Rattle.std.proofs.Common.{ℕ, List, ◌++◌, take, rules, true, refl}
use Rattle.std.specs.List.{flat_map}
use Rattle.cell_model.specs.Cell.{Cell}
use Rattle.script_model.specs.Report.{cell_line}
use Rattle.ship_command.proofs.Cuts.{cut_here, cut_then, cut_as, cut_to, parts_at}
use Rattle.ship_command.proofs.cells.put_cells.Goals as goal

pub returns-in_err-put_cell-clause-cut : goal.returns-in_err-put_cell-clause-cut
returns-in_err-put_cell-clause-cut g c told err =
    let text : Cell → List ℕ = λ x. cell_line (c.args.number, x) in
    let x : Cell = c.cell-item.result in
    let parts = parts_at text c.args.cells.now c.loop-cell.cell-index x x c.loop-cell-test.true c.cell-item.is in
    cut_as parts.1
    (cut_then (flat_map text (take c.loop-cell.cell-index c.args.cells.now)) (text x ++ parts.0) (c.loop-cell.invariant.so_far told)
    (cut_here (text x) parts.0 (cut_to (c.in_err-put_cell.ensures.cut told (refl {a = true})) (search rules))))
