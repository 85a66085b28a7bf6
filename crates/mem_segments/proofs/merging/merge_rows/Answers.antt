use Rattle.std.proofs.Common.{rules, arith}
use borrow.Author.Tests.{tests}
use Rattle.std.proofs.lemmas.Slice.{between_to_end}
use Rattle.mem_segments.proofs.Steps.{first_done, second_done, finish, one_turn}
use Rattle.mem_segments.proofs.merging.merge_rows.Goals as goal
use Rattle.mem_segments.proofs.merging.merge_rows.Goals.{then-loop-x-test+else-not-is_empty, else-loop-x-test}

pub loop-x-preserved : goal.loop-x-preserved
loop-x-preserved c =
    let t = c.turn-i in
    let h = c.loop-x-test.ensures in
    let g = c.if-not-is_empty.ensures in
    one_turn c.loop-x.rows.items c.push_shared.new.rows.items c.loop-x.first.now c.loop-x.second.now _ _ _ c.index-first-0.result c.index-second-0.result t.result.0.now t.result.1 t.result.2
    (search (tests, rules, h)) (search (tests, rules, g)) c.index-first-0.is c.index-second-0.is t.ensures.next t.ensures.first t.ensures.second c.in_ok-push_shared.ensures
    (between_to_end c.loop-x.first.now t.result.1 _ (omega arith)) (between_to_end c.loop-x.second.now t.result.2 _ (omega arith)) c.loop-x.invariant

pub returns : goal.returns
returns c = finish _ _ _ _ _ _ c.in_ok-share_all-2.ensures c.in_ok-share_all.ensures
    (elim c.loop-x-test.branch [ then-loop-x-test+else-not-is_empty w ↦ second_done c.loop-x.first.now c.loop-x.second.now (search rules) | else-loop-x-test w ↦ first_done c.loop-x.first.now c.loop-x.second.now (search rules) ])
    c.loop-x.invariant
