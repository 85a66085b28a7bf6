-- Lists whose members are paired off.
use Rattle.std.proofs.Common.{◌≡◌, zero, suc, ◌≤◌, Bool, true, false, cond, List, [], ◌∷◌, ◌++◌, length, filter, Contains, AllPairs, refl, sym, ap, subst, arith, inl, inr}
use Rattle.std.proofs.lemmas.List.{length-append}
use Rattle.std.proofs.lemmas.List.Elements.{Contains-append_left, Contains-append_right, Contains-append_cases}
use Rattle.server_model.specs.Closing.{Pairs}
use Rattle.server_model.proofs.JournalLaws.{contains_cons, filter_kept}

-- a member parts its list
parted : {A : Type 0} (xs : List A) (x : A) → Contains xs x → (front : List A) × (back : List A) × (xs ≡ front ++ x ∷ back)
parted [] x is = absurd (omega (arith, is.1))
parted (y ∷ ys) x (zero, lt, e) = ([], ys, ap (λ z. z ∷ ys) e)
parted (y ∷ ys) x (suc k, lt, e) = let p = parted ys x (k, omega (arith, lt), e) in (y ∷ p.0, p.1, ap (λ l. y ∷ l) p.2)

behind : {A : Type 0} (x : A) (xs : List A) (y : A) → Contains (x ∷ xs) y → (x ≡ y → ⊥) → Contains xs y
behind x xs y (zero, lt, e) other = absurd (other e)
behind x xs y (suc k, lt, e) other = (k, omega (arith, lt), e)

elsewhere : {A : Type 0} (front back : List A) (x y : A) → Contains (front ++ x ∷ back) y → (x ≡ y → ⊥) → Contains (front ++ back) y
elsewhere front back x y is other = elim (Contains-append_cases front (x ∷ back) y is) [
  | inl before ↦ Contains-append_left front back y before
  | inr after ↦ Contains-append_right front back y (behind x back y after other)
]

-- Each of these has a partner among those, and no two of them have one: there are no more of them.
pub no_more : {A B : Type 0} (R : A → B → Type 0) (xs : List A) (ys : List B) → ((x : A) → Contains xs x → (y : B) × Contains ys y × R x y)
    → Pairs (λ a b. (y : B) → R a y → R b y → ⊥) xs → length xs ≤ length ys
no_more R [] ys each apart = omega arith
no_more {A} {B} R (x ∷ xs) ys each apart =
    let p = each x (0, omega arith, refl) in
    let s = parted ys p.0 p.1 in
    let rest : length xs ≤ length (s.0 ++ s.1) = no_more R xs (s.0 ++ s.1) (λ z is. left z is (each z (contains_cons x xs z is))) apart.1 in
    let whole : length ys ≡ length (s.0 ++ p.0 ∷ s.1) = ap length s.2 in
    omega (arith, rest, whole, length-append s.0 (p.0 ∷ s.1), length-append s.0 s.1)
  where
    left : (z : A) → Contains xs z → (y : B) × Contains ys y × R z y
        → (y : B) × Contains ((parted ys (each x (0, omega arith, refl)).0 (each x (0, omega arith, refl)).1).0 ++ (parted ys (each x (0, omega arith, refl)).0 (each x (0, omega arith, refl)).1).1) y × R z y
    left z is q =
        let p = each x (0, omega arith, refl) in
        let s = parted ys p.0 p.1 in
        (q.0, elsewhere s.0 s.1 p.0 q.0 (subst (λ l. Contains l q.0) s.2 q.1) (λ same. apart.0 z is p.0 p.2 (subst (R z) (sym same) q.2)), q.2)

-- each two of a list, by recursion
pub pairs_from : {A : Type 0} (R : A → A → Type 0) (xs : List A) → AllPairs R xs → Pairs R xs
pairs_from R [] all = tt
pairs_from R (x ∷ xs) all = (
  (λ y is. subst (R x) is.2 (all 0 (suc is.0) y (omega arith) (omega (arith, is.1)))),
  pairs_from R xs (λ i j d lt low. all (suc i) (suc j) d (omega (arith, lt)) (omega (arith, low))),
)

pub pairs_filtered : {A : Type 0} (R : A → A → Type 0) (p : A → Bool) (xs : List A) → Pairs R xs → Pairs R (filter p xs)
pairs_filtered R p [] pairs = tt
pairs_filtered R p (x ∷ xs) pairs = elim (p x) as (λ b. Pairs R (cond b (x ∷ filter p xs) (filter p xs))) [
  | true ↦ ((λ y is. pairs.0 y (filter_kept p xs y is)), pairs_filtered R p xs pairs.1)
  | false ↦ pairs_filtered R p xs pairs.1
]

pub pairs_weaker : {A : Type 0} (R S : A → A → Type 0) (xs : List A) → ((x y : A) → R x y → S x y) → Pairs R xs → Pairs S xs
pairs_weaker R S [] then pairs = tt
pairs_weaker R S (x ∷ xs) then pairs = ((λ y is. then x y (pairs.0 y is)), pairs_weaker R S xs then pairs.1)
