-- What the first of some stores cover.
use Rattle.std.proofs.Common.{◌≡◌, ◌⊎◌, inl, inr, ℕ, ◌+◌, ◌<◌, ◌≤◌, min, max, List, [], ◌∷◌, length, take, get_or, Contains, refl, sym, ap, ◌∙◌, subst, arith}
use Rattle.std.proofs.lemmas.Bool.{cases_lt}
use Rattle.std.proofs.lemmas.List.{take_more, take_all}
use Rattle.std.proofs.lemmas.List.Elements.{Contains-get_or, Contains-push_cases}
use Rattle.found_files.specs.declared.found.FoundStore.{FoundStore}
use Rattle.store_compact.specs.Plan.{AreCovered}

-- these are between the two, which some of them all reach
pub record Going (all some : List FoundStore) (from to : ℕ) : Type 0 where
  pub low : (x : FoundStore) → Contains some x → from ≤ x.text.from
  pub high : (x : FoundStore) → Contains some x → x.text.to ≤ to
  pub first : (x : FoundStore) × Contains all x × (x.text.from ≡ from)
  pub last : (x : FoundStore) × Contains all x × (x.text.to ≡ to)

none_of : {A : Type 0} (xs : List A) (x : A) → Contains (take 0 xs) x → ⊥
none_of [] x h = omega (arith, h.1)
none_of (y ∷ ys) x h = omega (arith, h.1)

pub first_covered : (all : List FoundStore) (x : FoundStore) → Contains all x → Going all (take 0 all) x.text.from x.text.to
first_covered all x has = record { low = λ y in_none. absurd (none_of all y in_none); high = λ y in_none. absurd (none_of all y in_none); first = (x, has, refl); last = (x, has, refl) }

pub one_covered : (all : List FoundStore) (i : ℕ) (x : FoundStore) (from to low high : ℕ) → i < length all → get_or all i x ≡ x → low ≡ min from x.text.from → high ≡ max to x.text.to → Going all (take i all) from to → Going all (take (i + 1) all) low high
one_covered all i x from to low high lt is low_is high_is so_far = record {
  low = λ y has. elim (cases y has) as (λ _. low ≤ y.text.from) [ inl before ↦ (let h = so_far.low y before in omega (arith, h, low_is)) | inr here ↦ (let same : x.text.from ≡ y.text.from = ap (λ (z : FoundStore). z.text.from) here in omega (arith, same, low_is)) ];
  high = λ y has. elim (cases y has) as (λ _. y.text.to ≤ high) [ inl before ↦ (let h = so_far.high y before in omega (arith, h, high_is)) | inr here ↦ (let same : x.text.to ≡ y.text.to = ap (λ (z : FoundStore). z.text.to) here in omega (arith, same, high_is)) ];
  first = elim (cases_lt x.text.from from) as (λ _. (y : FoundStore) × Contains all y × (y.text.from ≡ low)) [
    | inl less ↦ (x, among, omega (arith, less, low_is))
    | inr more ↦ (so_far.first.0, so_far.first.1, so_far.first.2 ∙ omega (arith, more, low_is))
  ];
  last = elim (cases_lt to x.text.to) as (λ _. (y : FoundStore) × Contains all y × (y.text.to ≡ high)) [
    | inl less ↦ (x, among, omega (arith, less, high_is))
    | inr more ↦ (so_far.last.0, so_far.last.1, so_far.last.2 ∙ omega (arith, more, high_is))
  ];
}
  where
    among : Contains all x
    among = subst (λ (y : FoundStore). Contains all y) is (Contains-get_or all i x lt)

    cases : (y : FoundStore) → Contains (take (i + 1) all) y → Contains (take i all) y ⊎ (x ≡ y)
    cases y has = elim (Contains-push_cases (take i all) (get_or all i x) y (subst (λ (l : List FoundStore). Contains l y) (take_more all i x lt) has)) as (λ _. Contains (take i all) y ⊎ (x ≡ y)) [ inl before ↦ inl before | inr here ↦ inr (sym is ∙ here) ]

pub all_covered : (all : List FoundStore) (i from to : ℕ) → length all ≤ i → Going all (take i all) from to → AreCovered all from to
all_covered all i from to le so_far = record {
  low = λ x has. so_far.low x (subst (λ (l : List FoundStore). Contains l x) (sym (take_all i all le)) has);
  high = λ x has. so_far.high x (subst (λ (l : List FoundStore). Contains l x) (sym (take_all i all le)) has);
  first = so_far.first;
  last = so_far.last;
}
