-- Each two of a list, by recursion, and what a filter keeps.
use Rattle.std.proofs.Common.{◌≡◌, zero, suc, ◌⊎◌, Bool, true, false, cond, List, [], ◌∷◌, ◌++◌, filter, Contains, AllPairs, refl, sym, ◌∙◌, subst, arith, inl, inr}
use Rattle.std.proofs.lemmas.List.Elements.{All-contains, All-contains_itself, All-filter, filter_passes, Contains-append_right, Contains-append_cases, Contains-get_or}
use Rattle.std.proofs.lemmas.List.Kept.{AllPairs-cons}

pub contains_cons : {A : Type 0} → (x : A) (xs : List A) (y : A) → Contains xs y → Contains (x ∷ xs) y
contains_cons x xs y is = Contains-append_right (x ∷ []) xs y is

pub first_or_later : {A : Type 0} → (y : A) (xs : List A) (x : A) → Contains (y ∷ xs) x → (y ≡ x) ⊎ Contains xs x
first_or_later y xs x (zero, lt, e) = inl e
first_or_later y xs x (suc k, lt, e) = inr (k, omega (arith, lt), e)

pub not_in_none : {A : Type 0} → (x : A) → Contains [] x → ⊥
not_in_none x is = omega (arith, is.1)

-- ---- what a filter keeps

pub filter_kept : {A : Type 0} → (p : A → Bool) (xs : List A) (x : A) → Contains (filter p xs) x → Contains xs x
filter_kept p xs x is = All-contains (Contains xs) (filter p xs) x (All-filter p (Contains xs) xs (All-contains_itself xs)) is

pub filter_passed : {A : Type 0} → (p : A → Bool) (xs : List A) (x : A) → Contains (filter p xs) x → p x ≡ true
filter_passed p xs x is = All-contains (λ y. p y ≡ true) (filter p xs) x (filter_passes p xs) is

pub filter_has : {A : Type 0} → (p : A → Bool) (xs : List A) (x : A) → Contains xs x → p x ≡ true → Contains (filter p xs) x
filter_has p [] x is pass = is
filter_has {A} p (y ∷ ys) x is pass = elim (first_or_later y ys x is) [
  | inl same ↦ subst (λ b. Contains (cond b (y ∷ filter p ys) (filter p ys)) x) (head same) (0, omega arith, same)
  | inr later ↦ grown (p y) (filter_has p ys x later pass)
]
  where
    head : y ≡ x → true ≡ p y
    head same = subst (λ z. true ≡ p z) (sym same) (sym pass)

    grown : (b : Bool) → Contains (filter p ys) x → Contains (cond b (y ∷ filter p ys) (filter p ys)) x
    grown true there = contains_cons y (filter p ys) x there
    grown false there = there

-- ---- each two

-- R holds of each member and each later one
abbrev pub Pairs : {A : Type 0} → (A → A → Type 0) → List A → Type 0
Pairs R [] = Unit {0}
Pairs {A} R (x ∷ xs) = ((y : A) → Contains xs y → R x y) × Pairs R xs

pub pairs_all : {A : Type 0} → (R : A → A → Type 0) (xs : List A) → Pairs R xs → AllPairs R xs
pairs_all R [] h = λ i j d lt le. absurd (omega arith)
pairs_all R (x ∷ xs) h = AllPairs-cons R x xs (λ k d lt. h.0 _ (Contains-get_or xs k d lt)) (pairs_all R xs h.1)

pub pairs_from : {A : Type 0} (R : A → A → Type 0) (xs : List A) → AllPairs R xs → Pairs R xs
pairs_from R [] all = tt
pairs_from R (x ∷ xs) all = (
  (λ y is. subst (R x) is.2 (all 0 (suc is.0) y (omega arith) (omega (arith, is.1)))),
  pairs_from R xs (λ i j d lt low. all (suc i) (suc j) d (omega (arith, lt)) (omega (arith, low))),
)

pub pairs_weaker : {A : Type 0} (R S : A → A → Type 0) (xs : List A) → ((x y : A) → R x y → S x y) → Pairs R xs → Pairs S xs
pairs_weaker R S [] then pairs = tt
pairs_weaker R S (x ∷ xs) then pairs = ((λ y is. then x y (pairs.0 y is)), pairs_weaker R S xs then pairs.1)

pub pairs_both : {A : Type 0} (R S : A → A → Type 0) (xs : List A) → Pairs R xs → Pairs S xs → Pairs (λ x y. R x y × S x y) xs
pairs_both R S [] p q = tt
pairs_both R S (x ∷ xs) p q = ((λ y is. (p.0 y is, q.0 y is)), pairs_both R S xs p.1 q.1)

pub pairs_filtered : {A : Type 0} (R : A → A → Type 0) (p : A → Bool) (xs : List A) → Pairs R xs → Pairs R (filter p xs)
pairs_filtered R p [] pairs = tt
pairs_filtered R p (x ∷ xs) pairs = elim (p x) as (λ b. Pairs R (cond b (x ∷ filter p xs) (filter p xs))) [
  | true ↦ ((λ y is. pairs.0 y (filter_kept p xs y is)), pairs_filtered R p xs pairs.1)
  | false ↦ pairs_filtered R p xs pairs.1
]

pub pairs_append : {A : Type 0} → (R : A → A → Type 0) (xs ys : List A) → Pairs R xs → Pairs R ys → ((x y : A) → Contains xs x → Contains ys y → R x y) → Pairs R (xs ++ ys)
pairs_append R [] ys h k cross = k
pairs_append {A} R (x ∷ xs) ys h k cross = (both, pairs_append R xs ys h.1 k (λ a b is it. cross a b (contains_cons x xs a is) it))
  where
    both : (y : A) → Contains (xs ++ ys) y → R x y
    both y is = elim (Contains-append_cases xs ys y is) [ inl l ↦ h.0 y l | inr z ↦ cross x y (0, omega arith, refl) z ]

-- two members are one, or stand in one order or the other
pub pair_of : {A : Type 0} → (R : A → A → Type 0) (xs : List A) → Pairs R xs → (a b : A) → Contains xs a → Contains xs b → (a ≡ b) ⊎ (R a b ⊎ R b a)
pair_of R [] pairs a b in_a in_b = absurd (not_in_none a in_a)
pair_of R (x ∷ xs) pairs a b in_a in_b = elim (first_or_later x xs a in_a) [
  | inl e ↦ elim (first_or_later x xs b in_b) [
    | inl f ↦ inl (sym e ∙ f)
    | inr there ↦ inr (inl (subst (λ z. R z b) e (pairs.0 b there)))
  ]
  | inr there_a ↦ elim (first_or_later x xs b in_b) [
    | inl f ↦ inr (inr (subst (λ z. R z a) f (pairs.0 a there_a)))
    | inr there_b ↦ pair_of R xs pairs.1 a b there_a there_b
  ]
]
