-- The sum of the sequence ids drawn.
use Rattle.std.proofs.Common.{◌≡◌, ℕ, ◌+◌, ◌*◌, ◌<◌, ◌≤◌, ◌^◌, inl, inr, length, get_or, ap, arith}
use Rattle.std.specs.Prelude.{sum, slice_set}
use Rattle.std.proofs.lemmas.Bool.{cases_lt}
use Rattle.std.proofs.lemmas.List.{get_or_past}
use Rattle.log_ledger.specs.Numbers.{Numbers, IsServed, AreInOrder}
use Rattle.log_ledger.proofs.Sums.{sum_grows, sum_bound}

pub drawn_grow : (b : Numbers) (r n : ℕ) → AreInOrder b → IsServed b r → get_or b.drawn r 0 < n → sum b.drawn + 1 ≤ sum (slice_set b.drawn r n)
drawn_grow b r n order served above = sum_grows b.drawn r n inside above
  where
    inside : r < length b.drawn
    inside = elim (cases_lt r (length b.next_store)) as (λ _. r < length b.drawn) [
      | inl within ↦ omega (arith, within, order.wide.drawn, order.wide.next_store)
      | inr past ↦ absurd (let none = get_or_past b.next_store r 0 past in omega (arith, none, served))
    ]

pub drawn_small : (b : Numbers) → AreInOrder b → sum b.drawn < 2 ^ 55
drawn_small b order =
    let bound = sum_bound b.drawn (2 ^ 48) (λ r. omega (arith, (order.regions r).drawn)) in
    let width : length b.drawn * 2 ^ 48 ≡ 65 * 2 ^ 48 = ap (λ (n : ℕ). n * 2 ^ 48) order.wide.drawn in
    omega (arith, bound, width)

-- a region that is served has a place
pub served_place : (b : Numbers) (r : ℕ) → AreInOrder b → IsServed b r → r < 65
served_place b r order served = elim (cases_lt r (length b.next_store)) as (λ _. r < 65) [
  | inl within ↦ omega (arith, within, order.wide.next_store)
  | inr past ↦ absurd (let none = get_or_past b.next_store r 0 past in omega (arith, none, served))
]
