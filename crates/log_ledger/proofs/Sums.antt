-- Sums of numbers by region.
use Rattle.std.proofs.Common.{ℕ, ◌+◌, ◌*◌, ◌<◌, ◌≤◌, List, length, get_or, arith}
use Rattle.std.specs.Prelude.{sum, slice_set}
use Rattle.std.proofs.lemmas.List.Elements.{All-from_get_or}
use Rattle.std.proofs.lemmas.List.Sums.{sum_by-set, sum_by-le}

-- a number that grows makes the sum grow
pub sum_grows : (xs : List ℕ) (r n : ℕ) → r < length xs → get_or xs r 0 < n → sum xs + 1 ≤ sum (slice_set xs r n)
sum_grows xs r n there above = let is = sum_by-set (λ (x : ℕ). x) xs r n 0 there in omega (arith, is, above)

-- numbers up to a bound have a sum up to that many times the bound
pub sum_bound : (xs : List ℕ) (b : ℕ) → ((r : ℕ) → get_or xs r 0 ≤ b) → sum xs ≤ length xs * b
sum_bound xs b each = sum_by-le (λ (x : ℕ). x) b xs (All-from_get_or (λ (x : ℕ). x ≤ b) xs 0 (λ i _. each i))
