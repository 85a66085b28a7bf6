use Rattle.std.proofs.Common.{ap, ◌∙◌, arith}
use Rattle.cell_model.specs.Cell.{Cell}
use Rattle.cell_model.proofs.BatchLaws.{untagged_at}
use Rattle.kv_cell.proofs.batch.cells_len.Goals as goal

pub len_in-total-requires : goal.len_in-total-requires
len_in-total-requires c = λ e. ap (λ (x : Cell). x.tags) c.cell-item.is ∙ untagged_at c.args.cells.now c.loop-cell.cell-index c.cell-item.result (c.requires.plain e) (omega (arith, c.loop-cell-test.true))
