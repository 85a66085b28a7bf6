-- The greatest sequence id that a region has in entries with a cell of a family.
use Rattle.std.proofs.Common.{◌≡◌, ◌⊎◌, inl, inr, ℕ, ◌<◌, ◌≤◌, List, [], ◌∷◌, ◌++◌, Contains, refl, sym, ap, ◌∙◌, subst, arith}
use Rattle.std.proofs.lemmas.List.Elements.{Contains-append_left, Contains-push, Contains-push_cases}
use Rattle.log_model.specs.Entry.{Entry}
use Rattle.log_model.specs.Recovered.{HasFamily}
use Rattle.recovery_laws.proofs.Lists.{none_in}
use Rattle.log_ledger.specs.Counted.{IsHighest}

pub highest_none : (r : ℕ) (f : List ℕ) → IsHighest r f [] 0
highest_none r f = record { reached = inr refl; bound = λ m has. absurd (none_in has.0 has.1) }

pub highest_here : (r : ℕ) (f : List ℕ) (n : ℕ) (es : List Entry) (e : Entry) → IsHighest r f es n → e.region ≡ r → HasFamily e f → n < e.number → IsHighest r f (es ++ e ∷ []) e.number
highest_here r f n es e high here of above = record { reached = inl (e, Contains-push es e, here, of, refl); bound = bound }
  where
    bound : (m : ℕ) → (d : Entry) × Contains (es ++ e ∷ []) d × (d.region ≡ r) × HasFamily d f × (d.number ≡ m) → m ≤ e.number
    bound m has = elim (Contains-push_cases es e has.0 has.1) as (λ _. m ≤ e.number) [
      | inl old ↦ omega (arith, high.bound m (has.0, old, has.2, has.3, has.4), above)
      | inr is ↦ omega (arith, ap (λ (d : Entry). d.number) is, has.4)
    ]

pub highest_other : (r : ℕ) (f : List ℕ) (n : ℕ) (es : List Entry) (e : Entry) → IsHighest r f es n → (e.region ≡ r → HasFamily e f → ⊥) → IsHighest r f (es ++ e ∷ []) n
highest_other r f n es e high other = record { reached = reached high.reached; bound = bound }
  where
    reached : ((d : Entry) × Contains es d × (d.region ≡ r) × HasFamily d f × (d.number ≡ n)) ⊎ (n ≡ 0) → ((d : Entry) × Contains (es ++ e ∷ []) d × (d.region ≡ r) × HasFamily d f × (d.number ≡ n)) ⊎ (n ≡ 0)
    reached (inl has) = inl (has.0, Contains-append_left es (e ∷ []) has.0 has.1, has.2, has.3, has.4)
    reached (inr none) = inr none

    bound : (m : ℕ) → (d : Entry) × Contains (es ++ e ∷ []) d × (d.region ≡ r) × HasFamily d f × (d.number ≡ m) → m ≤ n
    bound m has = elim (Contains-push_cases es e has.0 has.1) as (λ _. m ≤ n) [
      | inl old ↦ high.bound m (has.0, old, has.2, has.3, has.4)
      | inr is ↦ absurd (other (ap (λ (d : Entry). d.region) is ∙ has.2) (subst (λ (d : Entry). HasFamily d f) (sym is) has.3))
    ]

-- all of the region's entries with the family are at or below a number exactly if the highest one is
pub highest_lower : (r : ℕ) (f : List ℕ) (n m : ℕ) (es : List Entry) → IsHighest r f es n → ((e : Entry) → Contains es e → e.region ≡ r → HasFamily e f → e.number ≤ m) → n ≤ m
highest_lower r f n m es high each = elim high.reached as (λ _. n ≤ m) [
  | inl has ↦ omega (arith, each has.0 has.1 has.2 has.3, has.4)
  | inr none ↦ omega (arith, none)
]
