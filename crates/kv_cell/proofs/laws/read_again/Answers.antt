use Rattle.std.proofs.Common.{◌++◌}
use Rattle.cell_model.specs.Cell.{spelled}
use Rattle.cell_model.proofs.CellLaws.{one_front, no_fault_from_fronts, fronts_itself}
use Rattle.kv_cell.proofs.laws.read_again.Goals as goal

pub returns : goal.returns
returns c form x rest is =
    let fronts = fronts_itself form x rest is in
    (no_fault_from_fronts form (spelled form x ++ rest) x fronts, λ d fronts_d. one_front form (spelled form x ++ rest) d x fronts_d fronts)
