-- Members of mapped lists.
use Rattle.std.proofs.Common.{◌≡◌, ℕ, zero, suc, ◌+◌, ◌<◌, ◌≤◌, List, [], ◌∷◌, map, Contains, refl, ap, arith, inl, inr}
use Rattle.std.proofs.lemmas.Bool.{cases_eq}
use Rattle.std.specs.List.{range_with_len}
use Rattle.server_model.specs.Closing.{Pairs}
use Rattle.server_model.proofs.JournalLaws.{contains_cons}

pub mapped : {A B : Type 0} (f : A → B) (xs : List A) (y : B) → Contains (map f xs) y → (x : A) × Contains xs x × (f x ≡ y)
mapped f [] y is = absurd (omega (arith, is.1))
mapped f (x ∷ xs) y (zero, lt, e) = (x, (0, omega arith, refl), e)
mapped f (x ∷ xs) y (suc k, lt, e) = let m = mapped f xs y (k, omega (arith, lt), e) in (m.0, contains_cons x xs m.0 m.1, m.2)

pub map_contains : {A B : Type 0} (f : A → B) (xs : List A) (x : A) → Contains xs x → Contains (map f xs) (f x)
map_contains f [] x is = absurd (omega (arith, is.1))
map_contains f (y ∷ xs) x (zero, lt, e) = (0, omega arith, ap f e)
map_contains f (y ∷ xs) x (suc k, lt, e) = contains_cons (f y) (map f xs) (f x) (map_contains f xs x (k, omega (arith, lt), e))

-- the member of a list by its number in a range
pub range_has : (n first r : ℕ) → first ≤ r → r < first + n → Contains (range_with_len first n) r
range_has zero first r low high = absurd (omega (arith, low, high))
range_has (suc n) first r low high = elim (cases_eq first r) [
  | inl same ↦ (0, omega arith, same)
  | inr other ↦ contains_cons first (range_with_len (first + 1) n) r (range_has n (first + 1) r (omega (arith, low, other)) (omega (arith, high)))
]

pub range_within : (n first r : ℕ) → Contains (range_with_len first n) r → (first ≤ r) × (r < first + n)
range_within zero first r is = absurd (omega (arith, is.1))
range_within (suc n) first r (zero, lt, e) = (omega (arith, e), omega (arith, e))
range_within (suc n) first r (suc k, lt, e) = let w = range_within n (first + 1) r (k, omega (arith, lt), e) in (omega (arith, w.0), omega (arith, w.1))

-- an order of a list, told of what its members show
pub pairs_through : {A B : Type 0} (f : A → B) (R : B → B → Type 0) (xs : List A) → Pairs R (map f xs) → Pairs (λ a b. R (f a) (f b)) xs
pairs_through f R [] p = tt
pairs_through f R (x ∷ xs) p = ((λ y is. p.0 (f y) (map_contains f xs y is)), pairs_through f R xs p.1)
