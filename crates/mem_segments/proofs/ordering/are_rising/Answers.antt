use Rattle.std.proofs.Common.{◌≡◌, arith, true}
use Rattle.std.specs.Ordering.{is_lt}
use Rattle.cell_model.specs.Order.{numbered_cmp}
use Rattle.mem_segments.proofs.Permuting.{neighbours_rise, one_neighbour_more}
use Rattle.mem_segments.proofs.ordering.are_rising.Goals as goal

pub loop-place-preserved : goal.loop-place-preserved
loop-place-preserved c =
    let x = c.index-rows-place.result in
    let y = c.index-rows-place-in-loop-place.result in
    let below : is_lt (numbered_cmp x y) ≡ true = cc (c.compare.ensures, c.if-not-is_lt.ensures) in
    one_neighbour_more c.loop-place.place c.args.rows.now x y (omega (arith, c.loop-place.auto.place)) (omega arith) c.index-rows-place.is c.index-rows-place-in-loop-place.is below c.loop-place.invariant

pub returns : goal.returns
returns c holds = neighbours_rise c.args.rows.now (λ k j d e lt. c.loop-place.invariant k j d e (omega arith))
