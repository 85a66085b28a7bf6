use Rattle.std.proofs.Common.{◌≡◌, All, length, map}
use Rattle.std.specs.Vec.Iter.{into_iter_items, into_iter_len}
use Rattle.script_text.proofs.GroupLaws.{added_all}
use Rattle.script_text.specs.Grouping.{IsOfHandler}
use Rattle.script_text.specs.State.{handler_call}
use Rattle.script_text.proofs.grouping.group.Given as goal

-- what is left is still to be added, and each of it is one of the handlers'
abbrev pub invariant-loop-one : goal.invariant-loop-one
invariant-loop-one l = record {
  left : added_all l.lists.items (map handler_call (into_iter_items l.one-iterator)) ≡ added_all l.initial.lists.items (map handler_call l.fn.calls.items);
  each : All (IsOfHandler l.handlers) (map handler_call (into_iter_items l.one-iterator));
  len : into_iter_len l.one-iterator ≡ length (into_iter_items l.one-iterator);
  count : length l.lists.items ≡ l.handlers;
}
