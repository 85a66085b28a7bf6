use Rattle.std.proofs.Common.{List, ◌∙◌, sym, ap, slice_set}
use Rattle.std.proofs.lemmas.List.Edits.{map_over_more}
use Rattle.cell_model.specs.Order.{NumberedCell}
use Rattle.mem_segments.specs.Walk.{past}
use Rattle.mem_segments.proofs.merge_iter.pass_all.Goals as goal

pub loop-rest-preserved : goal.loop-rest-preserved
loop-rest-preserved c =
    let f : List NumberedCell → List NumberedCell = past c.args.least.now in
    ap (slice_set c.loop-rest.rests c.loop-rest.rest-index) (c.pass.ensures ∙ ap f (sym c.rest-item.is))
    ∙ map_over_more f c.args.rests.now c.loop-rest.rests c.loop-rest.rest-index c.rest-item.result c.loop-rest-test.true c.loop-rest.invariant c.rest-item.is
