use Rattle.std.proofs.Common.{◌≡◌, ℕ, ◌+◌, refl, ap, ◌∙◌, subst}
use Rattle.hand_register.specs.declared.known.Record.{Record}
use Rattle.region_model.specs.Lines.{Line}
use Rattle.region_state.specs.States.{State, write_point}
use Rattle.region_lock.specs.Jobs.{IsJob}
use Rattle.region_lock.specs.Parts.{Part}
use Rattle.region_lock.proofs.Numbers.{next_above, next_within, last_spent}
use Rattle.region_lock.proofs.locked.Locked.draw.Goals as goal

pub returns-in-Ok-clause-tried : goal.returns-in-Ok-clause-tried
returns-in-Ok-clause-tried g c seen within =
    let b = c.in-Ok.ensures.begun in
    let was : write_point c.self.inside.state ≡ write_point c.args.self.now.state = ap (λ (p : Part). write_point p.state) c.self.view_is in
    let drew : c.in-Ok.entry ≡ write_point c.args.self.now.state + 1 = b.0 ∙ ap (λ (s : State). write_point s + 1) c.ready.ensures.same ∙ ap (λ (w : ℕ). w + 1) was in
    record {
      listed = ap (λ (r : Record Line). r.list) b.2;
      told_same = refl;
      above_seen = next_above seen (write_point c.args.self.now.state) c.in-Ok.entry within drew;
      limit = next_within (write_point c.args.self.now.state) c.write_point.result c.in-Ok.entry drew c.write_point.ensures.point c.if-write_point.false;
      above_own = b.3;
    }

pub returns-in-Err-clause-tried : goal.returns-in-Err-clause-tried
returns-in-Err-clause-tried g c seen within =
    let b = c.in-Err.ensures.begun in
    let region : c.ready.new.self.region ≡ c.args.self.now.state.region = ap (λ (s : State). s.region) c.ready.ensures.same ∙ ap (λ (p : Part). p.state.region) c.self.view_is in
    (record { own_same = ap (λ (r : Record Line). r.list) b.1; told_same = refl }, (subst (λ (r : ℕ). IsJob r c.in-Err.back) region b.2.0, b.2.1))

pub returns-then-write_point-clause-tried : goal.returns-then-write_point-clause-tried
returns-then-write_point-clause-tried g c seen within = record {
  own_same = refl;
  told_last = ap (λ (r : Record ℕ). r.list) c.tell_spent.ensures.told;
  limit = last_spent _ c.write_point.result c.tell_spent.result c.tell_spent.ensures.last c.write_point.ensures.point c.write_point.ensures.limit c.if-write_point.true;
}

pub invariant_of-self : goal.invariant_of-self
invariant_of-self g c = rw c.ready.ensures.same c.self.invariant

pub invariant_of-self-2 : goal.invariant_of-self-2
invariant_of-self-2 g c = rw c.ready.ensures.same c.self.invariant
