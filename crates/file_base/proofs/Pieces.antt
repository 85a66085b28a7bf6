-- Pieces of a file, one after the other.
use Rattle.std.proofs.Common.{◌≡◌, inl, inr, ℕ, zero, suc, ◌+◌, ◌≤◌, List, [], ◌∷◌, ◌++◌, take, drop, refl, sym, ◌∙◌, ap, arith}
use Rattle.std.proofs.lemmas.Bool.{cases_lt}

take_none : (n : ℕ) (c : List ℕ) → c ≡ [] → take n c ≡ []
take_none zero c is = refl
take_none (suc n) c is = ap (take (suc n)) is

-- what was read, and the next piece
pub next_taken : (m n : ℕ) (c : List ℕ) → take m c ++ take n (drop m c) ≡ take (m + n) c
next_taken zero n c = let same : n ≡ 0 + n = omega arith in ap (λ (k : ℕ). take k c) same
next_taken (suc m) n [] = take_none n [] refl ∙ sym (take_none (suc m + n) [] refl)
next_taken (suc m) n (x ∷ c) = let same : suc (m + n) ≡ suc m + n = omega arith in ap (λ (l : List ℕ). x ∷ l) (next_taken m n c) ∙ ap (λ (k : ℕ). take k (x ∷ c)) same

-- a piece that isn't empty brings one byte at least
pub some_more : (at n : ℕ) → (n ≡ 0 → ⊥) → at + 1 ≤ at + n
some_more at n some = elim (cases_lt 0 n) as (λ _. at + 1 ≤ at + n) [ inl more ↦ omega (arith, more) | inr none ↦ absurd (some (omega (arith, none))) ]
