use Rattle.std.proofs.Common.{◌≡◌, ℕ, ◌+◌, length, arith, sym, subst}
use Rattle.std.proofs.lemmas.Grind.{common_steps}
use Rattle.append_ring.specs.Parts.{IsNew}
use Rattle.append_ring.proofs.Moves.{begins}
use Rattle.append_ring.proofs.Places.{are_new-snoc, new_in_place}
use Rattle.append_ring.proofs.ring.Ring.of_capacity.Goals as goal

pub ruled-requires-clause-rule : goal.ruled-requires-clause-rule
ruled-requires-clause-rule g c = let t = g.T.OfRegion in let m = g.met.T.OfRegion in begins t.place t.number t.is_whole t.in_order m.order_empty m.order_front

pub loop-made-preserved : goal.loop-made-preserved
loop-made-preserved g c =
    let i = c.loop-made.invariant in
    let next = c.next_pass.ensures in
    let id = c.in_ok-queue.queue.table.shared.table_id in
    let lasts = c.args.lasts.now in
    let p = c.next_pass.result in
    let old = c.loop-made.places.items in
    let at : 0 + length old + 1 ≡ c.loop-made.made + 1 = omega (arith, i.count) in
    let new : IsNew id lasts (0 + length old + 1) p = subst (λ (r : ℕ). IsNew id lasts r p) (sym at) next.new in
    record {
      of = next.pass.0;
      view = next.pass.1;
      count = grind (arith, common_steps, c.push_reserved.ensures.items, i.count);
      room = omega (arith, i.room, c.push_reserved.ensures.capacity);
      new = rw c.push_reserved.ensures.items (are_new-snoc id lasts 0 old p i.new new);
    }

pub invariant_of-result : goal.invariant_of-result
invariant_of-result g c = new_in_place _ _ 0 c.loop-made.places.items c.loop-made.invariant.new
