-- Places for passes: one more, the first that is there, one put back, and the last one taken off.
use Rattle.std.proofs.Common.{◌≡◌, ℕ, zero, suc, ◌+◌, ◌<◌, List, [], ◌∷◌, ◌++◌, length, set, take, get_or, false, true≢false, arith, refl, sym, ap, ◌∙◌, subst}
use Rattle.std.proofs.lemmas.Option.{none-some, same_Some}
use Rattle.std.specs.Prelude.{Option, Some, None, slice_get, is_some, IsSome, IsSomeAnd}
use Rattle.atomic_table.specs.Seated.{TableId}
use Rattle.append_ring.specs.declared.pass.RingKey.{RingKey}
use Rattle.append_ring.specs.Parts.{first_there, without_first, AreOut, EachThere, IsNew, AreNew, AreInPlace, IsCounted, IsDrained}

pub are_new-snoc : {T : Type 0} (id : TableId) (lasts : List ℕ) (k : ℕ) (ps : List (Option (RingKey T))) (p : RingKey T) → AreNew id lasts k ps → IsNew id lasts (k + length ps + 1) p → AreNew id lasts k (ps ++ Some p ∷ [])
are_new-snoc id lasts k [] p all new = (let e : k + 0 + 1 ≡ k + 1 = omega arith in subst (λ (r : ℕ). IsNew id lasts r p) e new, tt)
are_new-snoc id lasts k (None ∷ qs) p all new = absurd all
are_new-snoc id lasts k (Some q ∷ qs) p all new =
    let e : k + suc (length qs) + 1 ≡ k + 1 + length qs + 1 = omega arith in
    (all.0, are_new-snoc id lasts (k + 1) qs p all.1 (subst (λ (r : ℕ). IsNew id lasts r p) e new))

pub new_in_place : {T : Type 0} (id : TableId) (lasts : List ℕ) (k : ℕ) (ps : List (Option (RingKey T))) → AreNew id lasts k ps → AreInPlace k ps
new_in_place id lasts k [] all = tt
new_in_place id lasts k (None ∷ ps) all = absurd all
new_in_place id lasts k (Some p ∷ ps) all = (all.0.1, new_in_place id lasts (k + 1) ps all.1)

-- what holds of all that are there holds of the front and of the last one
pub each_there-front : {A : Type 0} (is_so : A → Type 0) (left : List (Option A)) (last : Option A) → EachThere is_so (left ++ last ∷ []) → EachThere is_so left × EachThere is_so (last ∷ [])
each_there-front is_so [] last p = (tt, p)
each_there-front is_so (None ∷ xs) last p = absurd p
each_there-front is_so (Some a ∷ xs) last p = let r = each_there-front is_so xs last p.1 in ((p.0, r.0), r.1)

module _ {A : Type 0} where
  -- what was read at an index of the list is there
  pub at_read : (xs : List A) (i : ℕ) (x : A) → i < length xs → x ≡ get_or xs i x → slice_get xs i ≡ Some x
  at_read [] i x low e = absurd (omega (arith, low))
  at_read (y ∷ ys) zero x low e = ap Some (sym e)
  at_read (y ∷ ys) (suc i) x low e = at_read ys i x (omega (arith, low)) e

  -- the other way round
  pub read_at : (xs : List A) (i : ℕ) (x d : A) → slice_get xs i ≡ Some x → (i < length xs) × (get_or xs i d ≡ x)
  read_at [] i x d e = absurd (none-some x e)
  read_at (y ∷ ys) zero x d e = (omega arith, same_Some y x e)
  read_at (y ∷ ys) (suc i) x d e = let r = read_at ys i x d e in (omega (arith, r.0), r.1)

  pub none_inside : (o : Option A) → is_some o ≡ false → o ≡ None
  none_inside None e = refl
  none_inside (Some a) e = absurd (true≢false e)

  pub some_inside : (o : Option (Option A)) → IsSomeAnd o (λ p. IsSome p) → (a : A) × (o ≡ Some (Some a))
  some_inside None is = absurd is
  some_inside (Some None) is = absurd (true≢false (sym is))
  some_inside (Some (Some a)) is = (a, refl)

  out_suc : (n : ℕ) (places : List (Option A)) → AreOut n places → slice_get places n ≡ Some None → AreOut (suc n) places
  out_suc zero [] out e = absurd (none-some _ e)
  out_suc zero (None ∷ os) out e = tt
  out_suc zero (Some a ∷ os) out e = absurd (none-some a (sym (same_Some (Some a) None e)))
  out_suc (suc n) [] out e = absurd out
  out_suc (suc n) (None ∷ os) out e = out_suc n os out e
  out_suc (suc n) (Some a ∷ os) out e = absurd out

  pub out_next : (n : ℕ) (places : List (Option A)) → AreOut n places → slice_get places n ≡ Some None → AreOut (n + 1) places
  out_next n places out e = let s : suc n ≡ n + 1 = omega arith in subst (λ (k : ℕ). AreOut k places) s (out_suc n places out e)

  pub all_out : (places : List (Option A)) → AreOut (length places) places → (first_there places ≡ None) × (without_first places ≡ places)
  all_out [] out = (refl, refl)
  all_out (None ∷ os) out = let r = all_out os out in (r.0, ap (λ l. None ∷ l) r.1)
  all_out (Some a ∷ os) out = absurd out

  pub found : (n : ℕ) (places : List (Option A)) (a : A) → AreOut n places → slice_get places n ≡ Some (Some a) → (first_there places ≡ Some a) × (without_first places ≡ set places n None)
  found zero [] a out e = absurd (none-some _ e)
  found zero (None ∷ os) a out e = absurd (none-some a (same_Some None (Some a) e))
  found zero (Some b ∷ os) a out e = (same_Some (Some b) (Some a) e, refl)
  found (suc n) [] a out e = absurd out
  found (suc n) (None ∷ os) a out e = let r = found n os a out e in (r.0, ap (λ l. None ∷ l) r.1)
  found (suc n) (Some b ∷ os) a out e = absurd out

  pub none_out : (is_so : A → Type 0) (places : List (Option A)) (i : ℕ) → EachThere is_so places → slice_get places i ≡ Some None → ⊥
  none_out is_so [] i each e = none-some _ e
  none_out is_so (None ∷ os) i each e = each
  none_out is_so (Some a ∷ os) zero each e = none-some a (sym (same_Some (Some a) None e))
  none_out is_so (Some a ∷ os) (suc i) each e = none_out is_so os i each.1 e

  pub each_at : (is_so : A → Type 0) (places : List (Option A)) (i : ℕ) (a : A) → EachThere is_so places → slice_get places i ≡ Some (Some a) → is_so a
  each_at is_so [] i a each e = absurd (none-some _ e)
  each_at is_so (None ∷ os) i a each e = absurd each
  each_at is_so (Some b ∷ os) zero a each e = subst is_so (same_Some b a (same_Some (Some b) (Some a) e)) each.0
  each_at is_so (Some b ∷ os) (suc i) a each e = each_at is_so os i a each.1 e

  each_suc : (is_so : A → Type 0) (places : List (Option A)) (i : ℕ) (a : A) → EachThere is_so (take i places) → slice_get places i ≡ Some (Some a) → is_so a → EachThere is_so (take (suc i) places)
  each_suc is_so [] i a each e here = absurd (none-some _ e)
  each_suc is_so (None ∷ os) zero a each e here = absurd (none-some a (same_Some None (Some a) e))
  each_suc is_so (None ∷ os) (suc i) a each e here = absurd each
  each_suc is_so (Some b ∷ os) zero a each e here = (subst is_so (sym (same_Some b a (same_Some (Some b) (Some a) e))) here, tt)
  each_suc is_so (Some b ∷ os) (suc i) a each e here = (each.0, each_suc is_so os i a each.1 e here)

  -- what holds of those before the place i and of the one there
  pub each_next : (is_so : A → Type 0) (places : List (Option A)) (i : ℕ) (a : A) → EachThere is_so (take i places) → slice_get places i ≡ Some (Some a) → is_so a → EachThere is_so (take (i + 1) places)
  each_next is_so places i a each e here = let s : suc i ≡ i + 1 = omega arith in subst (λ (k : ℕ). EachThere is_so (take k places)) s (each_suc is_so places i a each e here)

module _ {T : Type 0} where
  pub in_place-out : (k : ℕ) (places : List (Option (RingKey T))) → AreInPlace k places → AreInPlace k (without_first places)
  in_place-out k [] p = tt
  in_place-out k (None ∷ os) p = in_place-out (k + 1) os p
  in_place-out k (Some a ∷ os) p = p.1

  pub in_place-back : (k : ℕ) (places : List (Option (RingKey T))) (i : ℕ) (a : RingKey T) → AreInPlace k places → a.region ≡ k + i + 1 → AreInPlace k (set places i (Some a))
  in_place-back k [] i a p e = tt
  in_place-back k (None ∷ os) zero a p e = (omega (arith, e), p)
  in_place-back k (None ∷ os) (suc i) a p e = in_place-back (k + 1) os i a p (omega (arith, e))
  in_place-back k (Some b ∷ os) zero a p e = (omega (arith, e), p.1)
  in_place-back k (Some b ∷ os) (suc i) a p e = (p.0, in_place-back (k + 1) os i a p.1 (omega (arith, e)))

  pub in_place_at : (k : ℕ) (places : List (Option (RingKey T))) (i : ℕ) (a : RingKey T) → AreInPlace k places → slice_get places i ≡ Some (Some a) → (a.region ≡ k + i + 1) × (i < length places)
  in_place_at k [] i a p e = absurd (none-some _ e)
  in_place_at k (None ∷ os) zero a p e = absurd (none-some a (same_Some None (Some a) e))
  in_place_at k (None ∷ os) (suc i) a p e = let r = in_place_at (k + 1) os i a p e in (omega (arith, r.0), omega (arith, r.1))
  in_place_at k (Some b ∷ os) zero a p e = (ap (λ (q : RingKey T). q.region) (sym (same_Some b a (same_Some (Some b) (Some a) e))) ∙ (p.0 ∙ omega arith), omega arith)
  in_place_at k (Some b ∷ os) (suc i) a p e = let r = in_place_at (k + 1) os i a p.1 e in (omega (arith, r.0), omega (arith, r.1))

-- all are those that are left and then those that are equal
abbrev pub EqualLater : {A : Type 0} → (A → Type 0) → List (Option A) → List (Option A) → Type 0
EqualLater {A} is_so all left = (done : List (Option A)) × (all ≡ left ++ done) × EachThere is_so done

-- where all are drained, the counts are equal
pub drained_counted : {T : Type 0} (place : T → ℕ) (popped : List T) (places : List (Option (RingKey T))) → EachThere (IsDrained place popped) places → EachThere (IsCounted place popped) places
drained_counted place popped [] all = tt
drained_counted place popped (None ∷ os) all = absurd all
drained_counted place popped (Some p ∷ os) all = (all.0.0, drained_counted place popped os all.1)

-- the two passes of a new ring for two regions
pub two_new : {T : Type 0} (id : TableId) (lasts : List ℕ) (places : List (Option (RingKey T))) → length places ≡ 2 → AreNew id lasts 0 places
    → (p q : RingKey T) × (places ≡ Some p ∷ Some q ∷ []) × IsNew id lasts 1 p × IsNew id lasts 2 q
two_new id lasts [] n all = absurd (omega (arith, n))
two_new id lasts (x ∷ []) n all = absurd (omega (arith, n))
two_new id lasts (None ∷ _) n all = absurd all
two_new id lasts (Some p ∷ None ∷ _) n all = absurd all.1
two_new id lasts (Some p ∷ Some q ∷ []) n all = (p, q, refl, all.0, all.1.0)
two_new id lasts (Some p ∷ Some q ∷ x ∷ xs) n all = absurd (omega (arith, n))
