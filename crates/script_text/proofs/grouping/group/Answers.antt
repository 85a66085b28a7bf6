use Rattle.std.proofs.Common.{◌≡◌, length, ap, ◌∙◌, arith}
use Rattle.std.specs.Vec.Iter.{into_iter_items}
use Rattle.script_text.proofs.GroupLaws.{first_is, rest_is, still_left, none_left, length-added}
use Rattle.script_text.specs.State.{handler_call}
use Rattle.script_text.proofs.grouping.group.Goals as goal

pub add_to-requires-clause-given : goal.add_to-requires-clause-given
add_to-requires-clause-given c =
    (first_is c.args.handlers (into_iter_items c.loop-one.one-iterator) (into_iter_items c.next.new.self) c.in-Some.one c.in-Some.ensures.steps.0 c.loop-one.invariant.each).0

pub add_to-requires-clause-within : goal.add_to-requires-clause-within
add_to-requires-clause-within c =
    let one = first_is c.args.handlers (into_iter_items c.loop-one.one-iterator) (into_iter_items c.next.new.self) c.in-Some.one c.in-Some.ensures.steps.0 c.loop-one.invariant.each in
    omega (arith, one.1, c.loop-one.invariant.count)

pub loop-one-preserved : goal.loop-one-preserved
loop-one-preserved c =
    let was = into_iter_items c.loop-one.one-iterator in
    let rest = into_iter_items c.next.new.self in
    let step = c.in-Some.ensures.steps.0 in
    record {
      left = still_left c.loop-one.lists.items c.add_to.new.lists.items _ was rest c.in-Some.one step c.in_ok-add_to.ensures c.loop-one.invariant.left;
      each = rest_is c.args.handlers was rest c.in-Some.one step c.loop-one.invariant.each;
      len = omega (arith, c.in-Some.ensures.steps.1, ap length step, c.loop-one.invariant.len);
      count = ap length c.in_ok-add_to.ensures ∙ length-added c.loop-one.lists.items (handler_call c.in-Some.one) ∙ c.loop-one.invariant.count;
    }

pub returns : goal.returns
returns c =
    let none : length (into_iter_items c.loop-one.one-iterator) ≡ 0 = omega (arith, c.in-None.ensures.steps.0, c.loop-one.invariant.len) in
    c.of.ensures ∙ none_left c.loop-one.lists.items c.in_ok-lists.lists.items (into_iter_items c.loop-one.one-iterator) c.args.calls.items c.args.handlers none c.in_ok-lists.ensures c.requires c.loop-one.invariant.left
