-- Of finitely many facts, each of which is there, all are there together.
use Rattle.std.proofs.Common.{refl, ℕ, zero, suc, ◌≤◌, List, [], ◌∷◌, Contains, arith, subst, sym, inl, inr}
use Rattle.std.proofs.Math.Logic.{∥∥₁_map₂}
use Rattle.std.proofs.lemmas.Bool.{cases_eq}
use Rattle.server_model.proofs.JournalLaws.{contains_cons}

-- what holds of the first and of the rest
pub with_first : {A : Type 0} (P : A → Type 0) (x : A) (xs : List A) → P x → ((y : A) → Contains xs y → P y) → (y : A) → Contains (x ∷ xs) y → P y
with_first P x xs first rest y (zero, lt, e) = subst P e first
with_first P x xs first rest y (suc k, lt, e) = rest y (k, omega (arith, lt), e)

-- of the members of a list
pub each_in : {A : Type 0} (P : A → Type 0) (xs : List A) → ((x : A) → Contains xs x → ∥ P x ∥₁) → ∥ ((x : A) → Contains xs x → P x) ∥₁
each_in P [] each = ∣ (λ x is. absurd (omega (arith, is.1))) ∣₁
each_in P (x ∷ xs) each =
    ∥∥₁_map₂ (each x (0, omega arith, refl)) (each_in P xs (λ y is. each y (contains_cons x xs y is))) (with_first P x xs)

-- of the numbers from 1 on
pub each_up_to : (P : ℕ → Type 0) (n : ℕ) → ((r : ℕ) → 1 ≤ r → r ≤ n → ∥ P r ∥₁) → ∥ ((r : ℕ) → 1 ≤ r → r ≤ n → P r) ∥₁
each_up_to P zero each = ∣ (λ r low high. absurd (omega (arith, low, high))) ∣₁
each_up_to P (suc n) each =
    ∥∥₁_map₂ (each_up_to P n (λ r low high. each r low (omega (arith, high)))) (each (suc n) (omega arith) (omega arith))
    (λ before last r low high. elim (cases_eq r (suc n)) [ inl same ↦ subst P (sym same) last | inr other ↦ before r low (omega (arith, high, other)) ])
