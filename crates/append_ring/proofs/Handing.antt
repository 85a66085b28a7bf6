-- Passes that are handed out one after the other, and that come back in the same order.
use Rattle.std.proofs.Common.{◌≡◌, ℕ, zero, suc, ◌+◌, ◌<◌, List, [], ◌∷◌, length, set, arith, refl, ap, subst}
use Rattle.std.specs.Prelude.{Option, Some, None, slice_get}
use Rattle.atomic_table.specs.Seated.{TableId}
use Rattle.append_ring.specs.declared.pass.RingKey.{RingKey}
use Rattle.append_ring.specs.Parts.{first_there, without_first, AreOut, ArePlacesBack, EachThere, IsNew, AreNewAfter}

module _ {T : Type 0} (id : TableId) (lasts : List ℕ) where
  -- what `next` gives after n calls, and what it leaves
  pub next_new : (k n : ℕ) (places : List (Option (RingKey T))) → AreNewAfter id lasts k n places → n < length places
      → (p : RingKey T) × (first_there places ≡ Some p) × IsNew id lasts (k + n + 1) p × AreNewAfter id lasts k (suc n) (without_first places) × (length (without_first places) ≡ length places)
  next_new k zero [] all low = absurd (omega arith)
  next_new k zero (None ∷ places) all low = absurd all
  next_new k zero (Some p ∷ places) all low = let e : k + 1 ≡ k + 0 + 1 = omega arith in (p, refl, subst (λ (r : ℕ). IsNew id lasts r p) e all.0, all.1, refl)
  next_new k (suc n) [] all low = absurd all
  next_new k (suc n) (None ∷ places) all low =
      let r = next_new (k + 1) n places all (omega arith) in
      let e : k + 1 + n + 1 ≡ k + suc n + 1 = omega arith in
      (r.0, r.1, subst (λ (m : ℕ). IsNew id lasts m r.0) e r.2, r.3, ap suc r.4)
  next_new k (suc n) (Some p ∷ places) all low = absurd all

  -- once all are handed out, `next` gives none, and each place is empty
  pub none_left : (k n : ℕ) (places : List (Option (RingKey T))) → AreNewAfter id lasts k n places → n ≡ length places → (first_there places ≡ None) × AreOut (length places) places
  none_left k zero [] all e = (refl, tt)
  none_left k zero (x ∷ places) all e = absurd (omega (arith, e))
  none_left k (suc n) [] all e = absurd all
  none_left k (suc n) (None ∷ places) all e = none_left (k + 1) n places all (omega (arith, e))
  none_left k (suc n) (Some p ∷ places) all e = absurd all

module _ {A : Type 0} (is_so : A → Type 0) where
  -- the place of the next one is empty, and it may come back there
  pub back_next : (n : ℕ) (places : List (Option A)) (a : A) → ArePlacesBack is_so n places → n < length places → is_so a → (slice_get places n ≡ Some None) × ArePlacesBack is_so (suc n) (set places n (Some a))
  back_next zero [] a back low here = absurd (omega arith)
  back_next zero (None ∷ places) a back low here = (refl, (here, back))
  back_next zero (Some b ∷ places) a back low here = absurd back
  back_next (suc n) [] a back low here = absurd back
  back_next (suc n) (None ∷ places) a back low here = absurd back
  back_next (suc n) (Some b ∷ places) a back low here = let r = back_next n places a back.1 (omega arith) here in (r.0, (back.0, r.1))

  pub all_back : (n : ℕ) (places : List (Option A)) → ArePlacesBack is_so n places → n ≡ length places → EachThere is_so places
  all_back zero [] back e = tt
  all_back zero (x ∷ places) back e = absurd (omega (arith, e))
  all_back (suc n) [] back e = absurd back
  all_back (suc n) (None ∷ places) back e = absurd back
  all_back (suc n) (Some a ∷ places) back e = (back.0, all_back n places back.1 (omega (arith, e)))
