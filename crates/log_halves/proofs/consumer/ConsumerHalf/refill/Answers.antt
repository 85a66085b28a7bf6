use Rattle.std.proofs.Common.{◌≡◌, ◌≤◌, ℕ, List, [], ◌∷◌, ◌++◌, None, length, sym, ap, ◌∙◌, subst}
use Rattle.std.specs.Prelude.{Option}
use Rattle.std.proofs.lemmas.Option.{same_Some}
use Rattle.std.proofs.Math.Logic.{∥∥₁_map}
use Rattle.crossbeam_queue.specs.Passes.{view}
use Rattle.append_ring.specs.Rules.{base_of, of, end_of, Follows}
use Rattle.log_trucks.specs.Held.{Held}
use Rattle.log_halves.specs.declared.item.Item.{Item}
use Rattle.log_halves.specs.declared.item.Item.TheVariants as items
use Rattle.log_halves.specs.Items.{region_of, number_of, IsWholeItem, appended, held_in}
use Rattle.log_halves.specs.Trucks.{FollowFrom}
use Rattle.log_halves.specs.Chains.{all_trucks}
use Rattle.log_halves.proofs.Chains.{spelled_front, spelled_both}
use Rattle.log_halves.proofs.ItemLaws.{no_some, item_spelled, item_follows, tie_popped}
use Rattle.log_halves.proofs.consumer.ConsumerHalf.refill.Goals as goal

pub invariant_of-self-2 : goal.invariant_of-self-2
invariant_of-self-2 g c =
    let s = c.args.self.now in
    let x : Item = c.in-Some.item in
    let lasts : List ℕ = g.N.ServiceNaming.lasts in
    let popped : List Item = (view s.consumer.pass).popped in
    let got = c.in-Some.ensures.popped in
    let none : s.held ≡ None = no_some s.held (sym c.is_some.ensures ∙ c.if-is_some.false) in
    let more : (view c.pop.new.pass.pass).popped ≡ popped ++ x ∷ [] = ap (λ v. v.popped) got.now in
    let pushed : List Held = all_trucks (view s.chain_key.pass).pushed in
    let tie : pushed ++ (s.chain ++ []) ≡ appended popped = ap (λ (o : Option Item). pushed ++ (s.chain ++ appended (held_in o))) (sym none) ∙ s.tie in
    record {
      ring = (c.in-Some.ensures.same ∙ s.ring.0, ap (λ v. v.lasts) got.now ∙ s.ring.1);
      to = s.to;
      rest = s.rest;
      tie = tie_popped pushed s.chain popped x tie ∙ ap appended (sym more);
      spelled = spelled_both s.chain (appended (x ∷ [])) (spelled_front s.chain (appended (held_in s.held)) s.spelled) (item_spelled x got.good.0);
      alone = λ truck is. (subst IsWholeItem (same_Some x (items.Append truck) is) got.good.0).1;
      came = ∥∥₁_map s.came (λ was.
          g.N.ServiceNaming.came_out (view s.consumer.pass) (view c.pop.new.pass.pass) x s.consumer.pops (subst (λ (o : Option Item). g.N.ServiceNaming.came popped o) none was) got);
      follow = subst (λ (l : List Item). FollowFrom lasts (appended l)) (sym more)
          (item_follows lasts popped x s.follow got.good.1 (subst (λ (l : List ℕ). region_of x ≤ length l) s.ring.1 got.good.2)
          (subst (λ (l : List ℕ). Follows number_of (end_of number_of (base_of l (region_of x)) (of region_of (region_of x) popped)) x) s.ring.1 got.follows));
    }
