use Rattle.std.proofs.Common.{◌∙◌, sym, ap, slice_set}
use Rattle.std.proofs.lemmas.List.Edits.{map_over_more}
use Rattle.cell_model.specs.Order.{NumberedCell}
use Rattle.mem_segments.proofs.draft.renumber.Goals as goal

pub loop-row-preserved : goal.loop-row-preserved
loop-row-preserved c =
    let f : NumberedCell → NumberedCell = λ x. (c.args.number, x.1) in
    ap (slice_set c.loop-row.rows c.loop-row.row-index) (c.set_number.ensures ∙ ap f (sym c.row-item.is))
    ∙ map_over_more f c.args.rows.now c.loop-row.rows c.loop-row.row-index c.row-item.result c.loop-row-test.true c.loop-row.invariant c.row-item.is
