-- Words that are no more than what a device tells.
use Rattle.std.proofs.Common.{◌≡◌, ℕ, ◌+◌, ◌-◌, ◌<◌, ◌≤◌, List, get_or, ap, arith}
use Rattle.log_berth.specs.Words.{NoMore}
use Rattle.log_ledger.specs.Numbers.{Numbers}
use Rattle.log_halves.specs.Numbers.{told_numbers}
use Rattle.log_halves.proofs.Numbers.{told_synced, told_stored, told_closed}
use Rattle.log_service.specs.Closed.{synced_in, stored_in, closed_in}

-- words that are no more than what is told are no more than each region's numbers
pub synced_low : (n : ℕ) (b : Numbers) (words : List ℕ) (r : ℕ) → NoMore words (told_numbers n b) → 0 < r → r ≤ n → synced_in words r ≤ get_or b.synced r 0
synced_low n b words r low above within =
    let at = told_synced n b (r - 1) (omega (arith, above, within)) in
    let place : (r - 1) + 1 ≡ r = omega (arith, above) in
    omega (arith, low (r - 1), at, ap (λ (k : ℕ). get_or b.synced k 0) place)

pub stored_low : (n : ℕ) (b : Numbers) (words : List ℕ) (r : ℕ) → NoMore words (told_numbers n b) → 0 < r → r ≤ n → stored_in n words r ≤ get_or b.stored r 0
stored_low n b words r low above within =
    let at = told_stored n b (n + r - 1) (omega (arith, above)) (omega (arith, above, within)) in
    let place : (n + r - 1 - n) + 1 ≡ r = omega (arith, above) in
    omega (arith, low (n + r - 1), at, ap (λ (k : ℕ). get_or b.stored k 0) place)

pub closed_low : (n : ℕ) (b : Numbers) (words : List ℕ) (r : ℕ) → NoMore words (told_numbers n b) → 0 < r → r ≤ n → closed_in n words r ≤ get_or b.closed r 0
closed_low n b words r low above within =
    let at = told_closed n b (n + n + r - 1) (omega (arith, above)) (omega (arith, above, within)) in
    let place : (n + n + r - 1 - n - n) + 1 ≡ r = omega (arith, above) in
    omega (arith, low (n + n + r - 1), at, ap (λ (k : ℕ). get_or b.closed k 0) place)
