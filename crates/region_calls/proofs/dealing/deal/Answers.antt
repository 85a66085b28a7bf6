use Rattle.std.proofs.Common.{◌≡◌, inl, inr, ◌+◌, ◌-◌, ◌<◌, List, [], ◌∷◌, length, refl, sym, ap, ◌∙◌, subst, arith, length-append}
use Rattle.std.proofs.lemmas.Option.{slice_get_read}
use Rattle.pass_calls.specs.region_lock.declared.pass.RegionPass.{RegionPass}
use Rattle.pass_calls.proofs.region_lock_laws.Lists.{get_set, length_set}
use Rattle.region_calls.specs.Hands.{Deal, deal_of}
use Rattle.region_calls.specs.Passes.{IsNewHand, AreNewHands}
use Rattle.region_calls.proofs.BackLaws.{get_low}
use Rattle.region_calls.proofs.Seated.{hands_more}
use Rattle.region_calls.proofs.dealing.deal.Goals as goal

pub next-requires : goal.next-requires
next-requires g c =
    let ds = c.dealing.regions.items in
    let i = c.dealing.place in
    let d : Deal = c.index_mut.result.now in
    let low : i < length ds = omega (arith, c.dealing-test.true, c.len-place-end.ensures, c.args.regions.now.ok.0, c.dealing.invariant.count) in
    let is = c.dealing.invariant.rest i d (omega arith) (slice_get_read ds (length ds) i d refl low c.index_mut.ensures.value) in
    omega (arith, ap (λ (e : Deal). e.left) is, c.requires.deals.0)

pub dealing-preserved : goal.dealing-preserved
dealing-preserved g c =
    let ds : List Deal = c.dealing.regions.items in
    let i = c.dealing.place in
    let h = c.args.handler in
    let left = c.args.left in
    let d : Deal = c.index_mut.result.now in
    let new : Deal = c.next.new.self in
    let inv = c.dealing.invariant in
    let low : i < length ds = omega (arith, c.dealing-test.true, c.len-place-end.ensures, c.args.regions.now.ok.0, inv.count) in
    let is : d ≡ deal_of (i + 1) h left = inv.rest i d (omega arith) (slice_get_read ds (length ds) i d refl low c.index_mut.ensures.value) in
    let after : new ≡ deal_of (i + 1) (h + 1) (left - 1) = c.next.ensures.left ∙ ap (λ (e : Deal). deal_of e.region (e.next + 1) (e.left - 1)) is in
    let hand : IsNewHand (i + 1) h c.next.result = subst (λ (e : Deal). IsNewHand e.region e.next c.next.result) is c.next.ensures.hand in
    let pushed = c.push_reserved.ensures.items in
    record {
      done = λ k e before at. elim (get_set ds i k new e at) as (λ _. e ≡ deal_of (k + 1) (h + 1) (left - 1)) [
        | inl (here, same) ↦ sym same ∙ after ∙ ap (λ n. deal_of (n + 1) (h + 1) (left - 1)) (sym here)
        | inr (other, was) ↦ inv.done k e (omega (arith, before, other)) was
      ];
      rest = λ k e behind at. elim (get_set ds i k new e at) as (λ _. e ≡ deal_of (k + 1) h left) [
        | inl (here, same) ↦ absurd (omega (arith, here, behind))
        | inr (other, was) ↦ inv.rest k e (omega (arith, behind)) was
      ];
      count = length_set ds i new ∙ inv.count;
      hands = subst (λ (l : List (RegionPass g.row.N.Denot g.N.LockNaming)). AreNewHands h l) (sym pushed)
          (hands_more h c.dealing.hands.items c.next.result inv.hands (subst (λ n. IsNewHand (n + 1) h c.next.result) (sym inv.made) hand));
      made = ap length pushed ∙ omega (arith, length-append c.dealing.hands.items (c.next.result ∷ []), inv.made);
      room = omega (arith, inv.room, c.push_reserved.ensures.capacity);
    }

pub returns-clause-deals : goal.returns-clause-deals
returns-clause-deals g c k d at =
    let low = get_low c.dealing.regions.items k d at in
    c.dealing.invariant.done k d (omega (arith, low, c.dealing-test.false, c.len-place-end.ensures, c.args.regions.now.ok.0, c.dealing.invariant.count)) at
