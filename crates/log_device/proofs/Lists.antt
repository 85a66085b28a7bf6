-- What stands in a list with one more after it.
use Rattle.std.proofs.Common.{◌≡◌, ◌⊎◌, inl, inr, Bool, true, false, cond, List, [], ◌∷◌, ◌++◌, Contains, filter, sym, ap, ◌∙◌, subst, arith}
use Rattle.std.proofs.lemmas.List.Elements.{All-contains, All-contains_itself, All-filter, filter_passes, Contains-append_left, Contains-append_right, Contains-append_cases, Contains-push, Contains-push_cases}

pub one_more : {A : Type 0} (xs : List A) (x a : A) → Contains (xs ++ x ∷ []) a → Contains xs a ⊎ (x ≡ a)
one_more xs x a h = Contains-push_cases xs x a h

kept_by : {A : Type 0} (b : Bool) (x : A) (l : List A) (a : A) → Contains l a → Contains (cond b (x ∷ l) l) a
kept_by true x l a is = Contains-append_right (x ∷ []) l a is
kept_by false x l a is = is

pub first_or_later : {A : Type 0} (x : A) (xs : List A) (a : A) → Contains (x ∷ xs) a → (x ≡ a) ⊎ Contains xs a
first_or_later x xs a h = elim (Contains-append_cases (x ∷ []) xs a h) as (λ _. (x ≡ a) ⊎ Contains xs a) [
  | inl first ↦ elim (Contains-push_cases [] x a first) as (λ _. (x ≡ a) ⊎ Contains xs a) [ inl none ↦ absurd (omega (arith, none.1)) | inr is ↦ inl is ]
  | inr later ↦ inr later
]

-- what passes a test stands in the list of those that pass it, and nothing else
pub passes : {A : Type 0} (test : A → Bool) (xs : List A) (a : A) → Contains xs a → test a ≡ true → Contains (filter test xs) a
passes test [] a is holds = absurd (omega (arith, is.1))
passes test (x ∷ xs) a is holds = elim (first_or_later x xs a is) as (λ _. Contains (filter test (x ∷ xs)) a) [
  | inl here ↦ subst (λ (b : Bool). Contains (cond b (x ∷ filter test xs) (filter test xs)) a) (sym (ap test here ∙ holds))
      (subst (λ d. Contains (x ∷ filter test xs) d) here (Contains-append_left (x ∷ []) (filter test xs) x (Contains-push [] x)))
  | inr later ↦ kept_by (test x) x (filter test xs) a (passes test xs a later holds)
]

pub passed : {A : Type 0} (test : A → Bool) (xs : List A) (a : A) → Contains (filter test xs) a → Contains xs a × (test a ≡ true)
passed test xs a is = (
  All-contains (Contains xs) (filter test xs) a (All-filter test (Contains xs) xs (All-contains_itself xs)) is,
  All-contains (λ x. test x ≡ true) (filter test xs) a (filter_passes test xs) is,
)
