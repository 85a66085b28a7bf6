use Rattle.std.proofs.Common.{true≢false, [], sym, ap, ◌∙◌, ◌++◌, ◌∷◌, take, arith}
use Rattle.std.proofs.lemmas.List.{take_more}
use Rattle.cell_model.specs.Cell.{Cell}
use Rattle.cell_model.specs.Batch.{are_untagged}
use Rattle.cell_model.proofs.BatchLaws.{not_untagged, untagged_more}
use Rattle.kv_cell.proofs.batch.none_tagged.Goals as goal

pub returns-then-not-is_empty : goal.returns-then-not-is_empty
returns-then-not-is_empty c =
    sym (not_untagged c.args.cells.now c.loop-cell.cell-index c.cell-item.result (omega (arith, c.loop-cell-test.true))
    (λ none. true≢false (sym (c.is_empty.ensures.1 (ap (λ (x : Cell). x.tags) (c.cell.view_is ∙ c.cell-item.is) ∙ none)) ∙ c.if-not-is_empty.true)))

pub loop-cell-preserved : goal.loop-cell-preserved
loop-cell-preserved c =
    ap are_untagged (take_more c.args.cells.now c.loop-cell.cell-index c.cell-item.result (omega (arith, c.loop-cell-test.true)) ∙ ap (λ (x : Cell). take c.loop-cell.cell-index c.args.cells.now ++ x ∷ []) (sym c.cell-item.is))
    ∙ untagged_more (take c.loop-cell.cell-index c.args.cells.now) c.cell-item.result c.loop-cell.invariant (sym (ap (λ (x : Cell). x.tags) c.cell.view_is) ∙ c.is_empty.ensures.0 c.if-not-is_empty.false)
