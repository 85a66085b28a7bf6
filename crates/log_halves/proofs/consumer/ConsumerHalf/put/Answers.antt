use Rattle.std.proofs.Common.{◌≡◌, List, [], ◌∷◌, ◌++◌, Option, Some, None, sym, ap, ◌∙◌, subst, append_assoc}
use Rattle.std.proofs.Math.Logic.{∥∥₁_map}
use Rattle.crossbeam_queue.specs.Passes.{view}
use Rattle.log_trucks.specs.Held.{Held, held_of}
use Rattle.log_halves.specs.declared.item.Item.{Item}
use Rattle.log_halves.specs.declared.item.Item.TheVariants as items
use Rattle.log_halves.specs.Items.{appended, held_in}
use Rattle.log_halves.specs.Trucks.{AreSpelled}
use Rattle.log_halves.specs.Chains.{all_trucks}
use Rattle.log_halves.proofs.consumer.ConsumerHalf.put.Goals as goal

pub push-requires-clause-alone : goal.push-requires-clause-alone
push-requires-clause-alone g c = c.args.self.now.alone c.in-Append.truck (sym c.take.ensures.value ∙ (c.in-Some.is ∙ ap (λ (x : Item). Some x) c.in-Append.is))

none_held : (o : Option Item) → o ≡ None → {x : Item} → o ≡ Some x → ⊥
none_held o none some = absurd (cc (none, some))

-- a sync request was held
pub invariant_of-self : goal.invariant_of-self
invariant_of-self g c =
    let s = c.args.self.now in
    let popped : List Item = (view s.consumer.pass).popped in
    let was_is : s.held ≡ Some c.in-Some.item = sym c.take.ensures.value ∙ c.in-Some.is in
    let same : s.chain ++ appended (held_in s.held) ≡ s.chain ++ appended (held_in c.take.new.self) =
    ap (λ (o : Option Item). s.chain ++ appended (held_in o)) was_is ∙ (ap (λ (x : Item). s.chain ++ appended (x ∷ [])) c.in-Sync.is ∙ ap (λ (o : Option Item). s.chain ++ appended (held_in o)) (sym c.take.ensures.after)) in
    record {
      ring = s.ring;
      to = s.to;
      rest = s.rest;
      tie = subst (λ (l : List Held). all_trucks (view s.chain_key.pass).pushed ++ l ≡ appended (view s.consumer.pass).popped) same s.tie;
      spelled = subst AreSpelled same s.spelled;
      alone = λ truck is. absurd (none_held _ c.take.ensures.after is);
      came = ∥∥₁_map s.came (λ was.
          subst (λ (o : Option Item). g.N.ServiceNaming.came popped o) (sym c.take.ensures.after) (g.N.ServiceNaming.came_in popped c.in-Some.item (subst (λ (o : Option Item). g.N.ServiceNaming.came popped o) was_is was)));
      follow = s.follow;
    }

-- the held item stays
pub invariant_of-self-then-is_full_for : goal.invariant_of-self-then-is_full_for
invariant_of-self-then-is_full_for g c =
    let s = c.args.self.now in
    let was : s.held ≡ Some (items.Append c.in-Append.truck) = sym c.take.ensures.value ∙ (c.in-Some.is ∙ ap (λ (x : Item). Some x) c.in-Append.is) in
    record {
      ring = s.ring;
      to = s.to;
      rest = s.rest;
      tie = subst (λ (o : Option Item). all_trucks (view s.chain_key.pass).pushed ++ (s.chain ++ appended (held_in o)) ≡ appended (view s.consumer.pass).popped) was s.tie;
      spelled = subst (λ (o : Option Item). AreSpelled (s.chain ++ appended (held_in o))) was s.spelled;
      alone = subst (λ (o : Option Item). (truck : _) → o ≡ Some (items.Append truck) → truck.value.behind ≡ []) was s.alone;
      came = subst (λ (o : Option Item). ∥ g.N.ServiceNaming.came (view s.consumer.pass).popped o ∥₁) was s.came;
      follow = s.follow;
    }

-- it went into the chain
pub invariant_of-self-else-is_full_for : goal.invariant_of-self-else-is_full_for
invariant_of-self-else-is_full_for g c =
    let s = c.args.self.now in
    let popped : List Item = (view s.consumer.pass).popped in
    let was_is : s.held ≡ Some (items.Append c.in-Append.truck) = sym c.take.ensures.value ∙ (c.in-Some.is ∙ ap (λ (x : Item). Some x) c.in-Append.is) in
    let lone : List Held = held_of c.in-Append.truck.value ∷ [] in
    let same : s.chain ++ appended (held_in s.held) ≡ c.push.new.self ++ appended (held_in c.take.new.self) =
    ap (λ (o : Option Item). s.chain ++ appended (held_in o)) was_is ∙ (sym (append_assoc s.chain lone []) ∙ (ap (λ (l : List Held). l ++ []) (sym c.push.ensures) ∙ ap (λ (o : Option Item). c.push.new.self ++ appended (held_in o)) (sym c.take.ensures.after))) in
    record {
      ring = s.ring;
      to = s.to;
      rest = s.rest;
      tie = subst (λ (l : List Held). all_trucks (view s.chain_key.pass).pushed ++ l ≡ appended (view s.consumer.pass).popped) same s.tie;
      spelled = subst AreSpelled same s.spelled;
      alone = λ truck is. absurd (none_held _ c.take.ensures.after is);
      came = ∥∥₁_map s.came (λ was.
          subst (λ (o : Option Item). g.N.ServiceNaming.came popped o) (sym c.take.ensures.after) (g.N.ServiceNaming.came_in popped (items.Append c.in-Append.truck) (subst (λ (o : Option Item). g.N.ServiceNaming.came popped o) was_is was)));
      follow = s.follow;
    }
