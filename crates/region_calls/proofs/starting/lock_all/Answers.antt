use Rattle.std.proofs.Common.{◌≡◌, ℕ, suc, ◌+◌, ◌<◌, List, [], ◌∷◌, ◌++◌, length, sym, ap, ◌∙◌, subst, arith, length-append}
use Rattle.std.specs.Vec.Iter.{into_iter_items}
use Rattle.append_ring.specs.declared.pass.RingKey.{RingKey}
use Rattle.append_ring.specs.Parts.{IsNew, AreNewAfter}
use Rattle.append_ring.proofs.Handing.{next_new, none_left}
use Rattle.pass_calls.specs.log_service.log_halves.declared.item.Item.{Item}
use Rattle.region_calls.specs.Named.{AreFrom}
use Rattle.region_calls.proofs.Loops.{one_more, all_given, one_over, no_item}
use Rattle.region_calls.proofs.Seated.{same_of}
use Rattle.region_calls.proofs.starting.lock_all.Goals as goal

pub locking-init : goal.locking-init
locking-init g c =
    let gives = c.into_iter-region-iterator.ensures.into_iter_gives in
    record {
      passes = c.requires.passes.0;
      all = c.requires.passes.1;
      regions = subst (λ (l : List ℕ). AreFrom 1 l) (sym gives.0) c.requires.regions;
      rest = gives.0;
      count = ap length c.requires.room.0;
      len = omega (arith, gives.1, ap length gives.0);
      room = c.requires.room.1;
    }

pub unreachable-requires : goal.unreachable-requires
unreachable-requires g c =
    let ys : List ℕ = c.locking.yielded in
    let inv = c.locking.invariant in
    let fewer = one_more ys (into_iter_items c.locking.region-iterator) c.args.unlocked.items c.in-Some.region (into_iter_items c.next.new.self) inv.rest c.in-Some.ensures.steps.0 in
    let low : length ys < length c.locking.passes = omega (arith, inv.all, fewer) in
    let r = next_new g.N.ServiceNaming.ring g.N.ServiceNaming.lasts 0 (length ys) c.locking.passes inv.passes low in
    absurd (no_item r.0 (sym c.in_default.is ∙ c.next-in-locking.ensures.given ∙ r.1))

pub with_pass-requires : goal.with_pass-requires
with_pass-requires g c =
    let ys : List ℕ = c.locking.yielded in
    let x : ℕ = c.in-Some.region in
    let inv = c.locking.invariant in
    let ring = g.N.ServiceNaming.ring in
    let lasts = g.N.ServiceNaming.lasts in
    let fewer = one_more ys (into_iter_items c.locking.region-iterator) c.args.unlocked.items c.in-Some.region (into_iter_items c.next.new.self) inv.rest c.in-Some.ensures.steps.0 in
    let low : length ys < length c.locking.passes = omega (arith, inv.all, fewer) in
    let r = next_new ring lasts 0 (length ys) c.locking.passes inv.passes low in
    let regions = subst (λ (l : List ℕ). AreFrom (length ys + 1) l) c.in-Some.ensures.steps.0 inv.regions in
    let place : 0 + length ys + 1 ≡ x = omega (arith, regions.0) in
    let same : r.0 ≡ c.in-Some-next.pass = same_of r.0 c.in-Some-next.pass (sym r.1 ∙ sym c.next-in-locking.ensures.given ∙ c.in-Some-next.is) in
    subst (λ (p : RingKey Item). IsNew ring lasts x p) same (subst (λ n. IsNew ring lasts n r.0) place r.2)

pub locking-preserved : goal.locking-preserved
locking-preserved g c =
    let ys : List ℕ = c.locking.yielded in
    let x : ℕ = c.in-Some.region in
    let rest : List ℕ = into_iter_items c.next.new.self in
    let inv = c.locking.invariant in
    let ring = g.N.ServiceNaming.ring in
    let lasts = g.N.ServiceNaming.lasts in
    let steps = c.in-Some.ensures.steps.0 in
    let fewer = one_more ys (into_iter_items c.locking.region-iterator) c.args.unlocked.items c.in-Some.region (into_iter_items c.next.new.self) inv.rest c.in-Some.ensures.steps.0 in
    let low : length ys < length c.locking.passes = omega (arith, inv.all, fewer) in
    let r = next_new ring lasts 0 (length ys) c.locking.passes inv.passes low in
    let longer = length-append ys (x ∷ []) in
    let one : suc (length ys) ≡ length (ys ++ x ∷ []) = omega (arith, longer) in
    let two : length ys + 1 + 1 ≡ length (ys ++ x ∷ []) + 1 = omega (arith, longer) in
    let left = c.next-in-locking.ensures.left in
    record {
      passes = subst (λ n. AreNewAfter ring lasts 0 n c.next-in-locking.new.self) one (subst (λ l. AreNewAfter ring lasts 0 (suc (length ys)) l) (sym left) r.3);
      all = ap length left ∙ r.4 ∙ inv.all;
      regions = subst (λ n. AreFrom n rest) two (subst (λ (l : List ℕ). AreFrom (length ys + 1) l) steps inv.regions).1;
      rest = one_over ys (into_iter_items c.locking.region-iterator) c.args.unlocked.items x rest inv.rest steps;
      count = ap length c.push_reserved.ensures.items ∙ omega (arith, length-append c.locking.locks.items (c.new.result ∷ []), longer, inv.count);
      len = omega (arith, c.in-Some.ensures.steps.1, ap length steps, inv.len);
      room = omega (arith, inv.room, c.push_reserved.ensures.capacity);
    }

pub returns-clause-passes : goal.returns-clause-passes
returns-clause-passes g c =
    let ys : List ℕ = c.locking.yielded in
    let inv = c.locking.invariant in
    let given = all_given ys (into_iter_items c.locking.region-iterator) c.args.unlocked.items _ inv.rest inv.len c.in-None.ensures.steps.0 in
    let all : length ys ≡ length c.locking.passes = omega (arith, inv.all, given) in
    ((none_left g.N.ServiceNaming.ring g.N.ServiceNaming.lasts 0 (length ys) c.locking.passes inv.passes all).1, inv.all ∙ sym c.requires.passes.1)

pub returns-clause-locks : goal.returns-clause-locks
returns-clause-locks g c =
    let inv = c.locking.invariant in
    inv.count ∙ all_given c.locking.yielded (into_iter_items c.locking.region-iterator) c.args.unlocked.items _ inv.rest inv.len c.in-None.ensures.steps.0

pub push_reserved-requires : goal.push_reserved-requires
push_reserved-requires g c =
    let ys : List ℕ = c.locking.yielded in
    let inv = c.locking.invariant in
    let fewer = one_more ys (into_iter_items c.locking.region-iterator) c.args.unlocked.items c.in-Some.region (into_iter_items c.next.new.self) inv.rest c.in-Some.ensures.steps.0 in
    omega (arith, inv.count, inv.room, fewer)
