-- What stands in a list that was changed at one place.
use Rattle.std.proofs.Common.{◌≡◌, inl, inr, ℕ, ◌<◌, List, length, get_or, set, replicate, ap, ◌∙◌, arith}
use Rattle.std.proofs.lemmas.Bool.{cases_lt}
use Rattle.std.proofs.lemmas.List.{get_or-set_same, get_or-set_other, get_or-replicate, get_or_past, length-replicate, length-set}

pub same_at : {A : Type 0} (xs ys : List A) (r : ℕ) (d : A) → ys ≡ xs → get_or ys r d ≡ get_or xs r d
same_at xs ys r d same = ap (λ l. get_or l r d) same

pub set_here : {A : Type 0} (xs ys : List A) (i : ℕ) (y : A) (r : ℕ) (d : A) → ys ≡ set xs i y → i < length xs → r ≡ i → get_or ys r d ≡ y
set_here xs ys i y r d is there here = ap (λ l. get_or l r d) is ∙ ap (λ (k : ℕ). get_or (set xs i y) k d) here ∙ get_or-set_same xs i y d there

pub set_there : {A : Type 0} (xs ys : List A) (i : ℕ) (y : A) (r : ℕ) (d : A) → ys ≡ set xs i y → (r ≡ i → ⊥) → get_or ys r d ≡ get_or xs r d
set_there xs ys i y r d is other = ap (λ l. get_or l r d) is ∙ get_or-set_other xs i r y d other

pub length_of_set : {A : Type 0} (xs ys : List A) (i : ℕ) (y : A) → ys ≡ set xs i y → length ys ≡ length xs
length_of_set xs ys i y is = ap length is ∙ length-set xs i y

-- a list of one value reads as it everywhere
pub spread : {A : Type 0} (n r : ℕ) (x : A) → get_or (replicate n x) r x ≡ x
spread n r x = elim (cases_lt r n) [
  | inl within ↦ get_or-replicate n r x x within
  | inr past ↦ get_or_past (replicate n x) r x (let long = length-replicate n x in omega (arith, past, long))
]

-- a place that isn't 0 is within the list
pub within : (xs : List ℕ) (r : ℕ) → 0 < get_or xs r 0 → r < length xs
within xs r some = elim (cases_lt r (length xs)) [
  | inl is ↦ is
  | inr past ↦ absurd (let none = get_or_past xs r 0 past in omega (arith, none, some))
]
