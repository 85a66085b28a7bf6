-- Entries with the name of their file.
use Rattle.std.proofs.Common.{◌≡◌, ◌⊎◌, inl, inr, List, [], ◌∷◌, Contains, ap, subst, arith}
use Rattle.std.proofs.lemmas.List.Elements.{Contains-append_left, Contains-append_right, Contains-append_cases, Contains-push, Contains-push_cases}
use Rattle.log_model.specs.declared.name.Name.{Name}
use Rattle.log_model.specs.Entry.{Entry}
use Rattle.found_files.specs.declared.found.FoundEntry.{FoundEntry}
use Rattle.found_files.specs.Found.{place_in, placed}

pub none_in : {A : Type 0} (x : A) → Contains [] x → ⊥
none_in x h = omega (arith, h.1)

pub first_or_later : {A : Type 0} (x : A) (xs : List A) (y : A) → Contains (x ∷ xs) y → (x ≡ y) ⊎ Contains xs y
first_or_later x xs y h = elim (Contains-append_cases (x ∷ []) xs y h) as (λ _. (x ≡ y) ⊎ Contains xs y) [
  | inl here ↦ elim (Contains-push_cases [] x y here) as (λ _. (x ≡ y) ⊎ Contains xs y) [ inl none ↦ absurd (none_in y none) | inr is ↦ inr_first x xs y is ]
  | inr later ↦ inr later
]
  where
    inr_first : {A : Type 0} (x : A) (xs : List A) (y : A) → x ≡ y → (x ≡ y) ⊎ Contains xs y
    inr_first x xs y is = inl is

pub first_in : {A : Type 0} (x : A) (xs : List A) → Contains (x ∷ xs) x
first_in x xs = Contains-append_left (x ∷ []) xs x (Contains-push [] x)

pub later_in : {A : Type 0} (x : A) (xs : List A) (y : A) → Contains xs y → Contains (x ∷ xs) y
later_in x xs y has = Contains-append_right (x ∷ []) xs y has

-- an entry of the file stands among them
pub is_placed : (name : Name) (es : List Entry) (e : Entry) → Contains es e → Contains (placed name es) (place_in name e)
is_placed name [] e has = absurd (none_in e has)
is_placed name (d ∷ es) e has = elim (first_or_later d es e has) as (λ _. Contains (placed name (d ∷ es)) (place_in name e)) [
  | inl is ↦ subst (λ (x : Entry). Contains (placed name (d ∷ es)) (place_in name x)) is (first_in (place_in name d) (placed name es))
  | inr later ↦ later_in (place_in name d) (placed name es) (place_in name e) (is_placed name es e later)
]

-- and what stands among them is an entry of the file
pub placed_is : (name : Name) (es : List Entry) (x : FoundEntry) → Contains (placed name es) x → (name ≡ x.name) × Contains es x.entry
placed_is name [] x has = absurd (none_in x has)
placed_is name (d ∷ es) x has = elim (first_or_later (place_in name d) (placed name es) x has) as (λ _. (name ≡ x.name) × Contains (d ∷ es) x.entry) [
  | inl is ↦ (ap (λ (y : FoundEntry). y.name) is, subst (λ (e : Entry). Contains (d ∷ es) e) (ap (λ (y : FoundEntry). y.entry) is) (first_in d es))
  | inr later ↦ (let h = placed_is name es x later in (h.0, later_in d es x.entry h.1))
]
