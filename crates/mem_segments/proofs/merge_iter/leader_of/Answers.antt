use Rattle.std.proofs.Common.{◌≡◌, ◌-◌, List, drop, suc, sym, subst, arith}
use Rattle.cell_model.specs.Order.{NumberedCell}
use Rattle.mem_segments.specs.Leader.{IsLed}
use Rattle.mem_segments.proofs.Leading.{one_before}
use Rattle.mem_segments.proofs.merge_iter.leader_of.Goals as goal

pub loop-left-preserved : goal.loop-left-preserved
loop-left-preserved c =
    let left = c.loop-left.left in
    let lists : List (List NumberedCell) = c.args.rests.now in
    let more : suc (left - 1) ≡ left = omega arith in
    let led = subst (λ n. IsLed n (drop n lists) c.loop-left.leader) (sym more) c.loop-left.invariant.led in
    record {
      within = omega arith;
      led = one_before (left - 1) lists c.index-rests-left.result c.leading-leader.result (omega arith) c.index-rests-left.is (c.leading-leader.ensures (drop (suc (left - 1)) lists) led);
    }
