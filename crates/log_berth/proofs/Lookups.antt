-- A list read by `get_elem?`.
use Rattle.std.proofs.Common.{◌≡◌, ℕ, zero, suc, ◌+◌, List, [], ◌∷◌, ◌++◌, get_or, take, sym, ap, ◌∙◌, arith}
use mathlib.Core.Option.{some, some-injective, some-ne-none}
use lib.ListN.{get_elem?}

pub get_or-at : (l : List ℕ) (i x : ℕ) → get_elem? l i ≡ some x → get_or l i 0 ≡ x
get_or-at [] i x e = absurd (some-ne-none x (sym e))
get_or-at (y ∷ ys) zero x e = some-injective y x e
get_or-at (y ∷ ys) (suc i) x e = get_or-at ys i x e

take_suc : (l : List ℕ) (i x : ℕ) → get_elem? l i ≡ some x → take (suc i) l ≡ take i l ++ x ∷ []
take_suc [] i x e = absurd (some-ne-none x (sym e))
take_suc (y ∷ ys) zero x e = ap (λ (z : ℕ). z ∷ []) (some-injective y x e)
take_suc (y ∷ ys) (suc i) x e = ap (λ l. y ∷ l) (take_suc ys i x e)

pub take_next : (l : List ℕ) (i x : ℕ) → get_elem? l i ≡ some x → take (i + 1) l ≡ take i l ++ x ∷ []
take_next l i x e = let s : i + 1 ≡ suc i = omega arith in ap (λ (k : ℕ). take k l) s ∙ take_suc l i x e
