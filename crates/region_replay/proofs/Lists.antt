-- Parts of lists.
use Rattle.std.proofs.Common.{◌≡◌, ◌≢◌, inl, inr, ℕ, zero, suc, ◌<◌, List, [], ◌∷◌, ◌++◌, map, length, take, get_or, Contains, sym, ap, ◌∙◌, subst, arith}
use Rattle.std.specs.Prelude.{AllPairs}
use Rattle.std.proofs.lemmas.List.{get_or-take, length-take, get_or_default}
use Rattle.std.proofs.lemmas.List.Elements.{Contains-append_cases}
use Rattle.log_model.specs.Entry.{Entry}
use Rattle.recovery_laws.specs.Kept.{AreApart}
use Rattle.region_replay.proofs.Sorting.{none_in, is_first, is_later, first_or_later}

module _ {A B : Type 0} (f : A → B) where
  pub in_map : (xs : List A) (y : B) → Contains (map f xs) y → (x : A) × Contains xs x × (f x ≡ y)
  in_map [] y has = absurd (none_in y has)
  in_map (x ∷ xs) y has = elim (first_or_later (f x) (map f xs) y has) as (λ _. (z : A) × Contains (x ∷ xs) z × (f z ≡ y)) [
    | inl here ↦ (x, is_first x xs, here)
    | inr later ↦ (let r = in_map xs y later in (r.0, is_later x xs r.0 r.1, r.2))
  ]

  pub to_map : (xs : List A) (x : A) → Contains xs x → Contains (map f xs) (f x)
  to_map [] x has = absurd (none_in x has)
  to_map (y ∷ ys) x has = elim (first_or_later y ys x has) as (λ _. Contains (map f (y ∷ ys)) (f x)) [
    | inl here ↦ subst (λ (z : A). Contains (map f (y ∷ ys)) (f z)) here (is_first (f y) (map f ys))
    | inr later ↦ is_later (f y) (map f ys) (f x) (to_map ys x later)
  ]

-- one is apart from those before it
pub apart_from : {A : Type 0} (xs : List A) → AllPairs (λ a b. a ≢ b) xs → (i : ℕ) (x m : A) → i < length xs → Contains (take i xs) m → get_or xs i x ≢ m
apart_from {A} xs apart i x m lt has same =
    let early : has.0 < i = omega (arith, has.1, length-take i xs) in
    let here : get_or xs has.0 x ≡ m = get_or_default xs has.0 x m (omega (arith, early, lt)) ∙ sym (get_or-take i xs has.0 m early) ∙ has.2 in
    apart has.0 i x early lt (here ∙ sym same)

-- ---- entries of different sequence ids

pub apart_of : (es : List Entry) → AllPairs (λ a b. a.number < b.number) es → AreApart es
apart_of [] rise = tt
apart_of (e ∷ es) rise = (
  λ d has same. (
      let at : get_or es has.0 d ≡ d = has.2 in
      let within = has.1 in
      let less : e.number < (get_or es has.0 d).number = rise zero (suc has.0) d (omega arith) (omega (arith, within)) in
      let is : (get_or es has.0 d).number ≡ d.number = ap (λ (y : Entry). y.number) at in
      absurd (omega (arith, less, is, same))),
  apart_of es (λ i j d less lt. rise (suc i) (suc j) d (omega (arith, less)) (omega (arith, lt))),
)

pub apart_append : (xs ys : List Entry) → AreApart xs → AreApart ys → ((a b : Entry) → Contains xs a → Contains ys b → a.number ≢ b.number) → AreApart (xs ++ ys)
apart_append [] ys one two both = two
apart_append (x ∷ xs) ys one two both = (
  λ d has same. elim (Contains-append_cases xs ys d has) as (λ _. ⊥) [
    | inl left ↦ one.0 d left same
    | inr right ↦ both x d (is_first x xs) right (sym same)
  ],
  apart_append xs ys one.1 two (λ a b in_xs in_ys. both a b (is_later x xs a in_xs) in_ys),
)
