-- The numbers of old logs among names.
use Rattle.std.proofs.Common.{◌≡◌, ◌≢◌, ◌↔◌, inl, inr, ℕ, List, [], ◌∷◌, ◌++◌, Contains, sym, ap, ◌∙◌, subst, arith}
use Rattle.std.proofs.lemmas.List.Elements.{Contains-append_left, Contains-push, Contains-push_cases}
use Rattle.log_model.specs.declared.name.Name.{Name}
use Rattle.log_model.specs.declared.name.NameKind.TheVariants as kinds
use Rattle.std.specs.Prelude.{Result, Ok, Err, is_ok, false}
use Rattle.std.specs.Ordering.{nat_cmp}
use Rattle.std.specs.List.Sorted.{IsBinarySearchResult}
use Rattle.std.proofs.lemmas.Bool.{cases_lt}
use Rattle.std.proofs.lemmas.List.Elements.{at_from_Contains}
use Rattle.std.proofs.lemmas.List.Sorted.{searched}
use Rattle.found_files.specs.Names.{HasOld, IsInOrder}

abbrev AreOf : List Name → List ℕ → Type 0
AreOf names numbers = (n : ℕ) → Contains numbers n ↔ HasOld names n

none_in : {A : Type 0} (x : A) → Contains [] x → ⊥
none_in x h = omega (arith, h.1)

pub none_old : AreOf [] []
none_old n = (λ has. absurd (none_in n has), λ has. absurd (none_in has.0 has.1))

pub old_pushed : (names : List Name) (name : Name) (xs ys : List ℕ) → name.kind ≡ kinds.Old → ys ≡ xs ++ name.number ∷ [] → AreOf names xs → AreOf (names ++ name ∷ []) ys
old_pushed names name xs ys old is same n = (
  λ has. elim (Contains-push_cases xs name.number n (subst (λ (l : List ℕ). Contains l n) is has)) as (λ _. HasOld (names ++ name ∷ []) n) [
    | inl before ↦ (let h = (same n).0 before in (h.0, Contains-append_left names (name ∷ []) h.0 h.1, h.2, h.3))
    | inr here ↦ (name, Contains-push names name, old, here)
  ],
  λ has. subst (λ (l : List ℕ). Contains l n) (sym is) (elim (Contains-push_cases names name has.0 has.1) as (λ _. Contains (xs ++ name.number ∷ []) n) [
    | inl before ↦ Contains-append_left xs (name.number ∷ []) n ((same n).1 (has.0, before, has.2, has.3))
    | inr here ↦ subst (λ (k : ℕ). Contains (xs ++ name.number ∷ []) k) (ap (λ (m : Name). m.number) here ∙ has.3) (Contains-push xs name.number)
  ]),
)

pub other_pushed : (names : List Name) (name : Name) (xs : List ℕ) → name.kind ≢ kinds.Old → AreOf names xs → AreOf (names ++ name ∷ []) xs
other_pushed names name xs other same n = (
  λ has. (let h = (same n).0 has in (h.0, Contains-append_left names (name ∷ []) h.0 h.1, h.2, h.3)),
  λ has. elim (Contains-push_cases names name has.0 has.1) as (λ _. Contains xs n) [
    | inl before ↦ (same n).1 (has.0, before, has.2, has.3)
    | inr here ↦ absurd (other (ap (λ (m : Name). m.kind) here ∙ has.2))
  ],
)

-- a number that a search didn't find isn't there
pub not_found : (xs : List ℕ) (x : ℕ) (r : Result ℕ ℕ) → is_ok r ≡ false → IsBinarySearchResult (λ y. nat_cmp y x) xs r → IsInOrder xs → Contains xs x → ⊥
not_found xs x (Ok i) none position ordered has = absurd (cc none)
not_found xs x (Err i) none position ordered has =
    let s = searched xs x (Err i) position ordered in
    let at = at_from_Contains xs x has in
    elim (cases_lt at.0 i) as (λ _. ⊥) [
      | inl early ↦ omega (arith, s.1 at.0 early, at.2 0)
      | inr late ↦ omega (arith, s.2 at.0 late at.1, at.2 0)
    ]
