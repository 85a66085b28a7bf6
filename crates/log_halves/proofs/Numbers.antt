-- The numbers that a device tells, read by their places.
use Rattle.std.proofs.Common.{◌≡◌, ℕ, zero, suc, ◌+◌, ◌-◌, ◌<◌, ◌≤◌, List, [], ◌∷◌, ◌++◌, length, drop, get_or, refl, ap, ◌∙◌, arith}
use Rattle.std.proofs.lemmas.List.{get_or_append_left, get_or-append_right, get_or_past}
use Rattle.std.proofs.lemmas.Grind.{get_or_after_one}
use Rattle.log_berth.specs.Words.{starts, NoMore}
use Rattle.log_berth.proofs.Joined.{no_more-trans}
use Rattle.log_berth.proofs.Numbers.{starts_at}
use Rattle.log_ledger.specs.Numbers.{Numbers}
use Rattle.log_device.specs.declared.device.Device.{Device}
use Rattle.log_device.specs.Whole.{numbers_of}
use Rattle.log_halves.specs.Numbers.{told_numbers, TellsLater}

pub length_starts : (n : ℕ) (xs : List ℕ) → length (starts n xs) ≡ n
length_starts zero xs = refl
length_starts (suc n) [] = ap suc (length_starts n [])
length_starts (suc n) (x ∷ xs) = ap suc (length_starts n xs)

first_of : (n : ℕ) (xs : List ℕ) (i : ℕ) → i < n → get_or (starts n (drop 1 xs)) i 0 ≡ get_or xs (i + 1) 0
first_of n xs i low = starts_at n (drop 1 xs) i low ∙ (get_or_after_one xs i 0 ∙ ap (λ (k : ℕ). get_or xs k 0) (omega arith))

module _ (n : ℕ) (b : Numbers) where
  xs : List ℕ
  xs = starts n (drop 1 b.synced)

  ys : List ℕ
  ys = starts n (drop 1 b.stored)

  zs : List ℕ
  zs = starts n (drop 1 b.closed)

  pub told_synced : (i : ℕ) → i < n → get_or (told_numbers n b) i 0 ≡ get_or b.synced (i + 1) 0
  told_synced i low = get_or_append_left (starts n (drop 1 b.synced)) (starts n (drop 1 b.stored) ++ starts n (drop 1 b.closed)) 0 i (omega (arith, length_starts n (drop 1 b.synced), low)) ∙ first_of n b.synced i low

  behind : (i : ℕ) → n ≤ i → get_or (told_numbers n b) i 0 ≡ get_or (starts n (drop 1 b.stored) ++ starts n (drop 1 b.closed)) (i - n) 0
  behind i at = get_or-append_right (starts n (drop 1 b.synced)) (starts n (drop 1 b.stored) ++ starts n (drop 1 b.closed)) n i 0 (length_starts n (drop 1 b.synced)) at

  pub told_stored : (i : ℕ) → n ≤ i → i < n + n → get_or (told_numbers n b) i 0 ≡ get_or b.stored ((i - n) + 1) 0
  told_stored i at low = behind i at ∙ (get_or_append_left (starts n (drop 1 b.stored)) (starts n (drop 1 b.closed)) 0 (i - n) (omega (arith, length_starts n (drop 1 b.stored), low, at)) ∙ first_of n b.stored (i - n) (omega (arith, at, low)))

  further : (i : ℕ) → n + n ≤ i → get_or (told_numbers n b) i 0 ≡ get_or (starts n (drop 1 b.closed)) ((i - n) - n) 0
  further i at = behind i (omega (arith, at)) ∙ get_or-append_right (starts n (drop 1 b.stored)) (starts n (drop 1 b.closed)) n (i - n) 0 (length_starts n (drop 1 b.stored)) (omega (arith, at))

  pub told_closed : (i : ℕ) → n + n ≤ i → i < (n + n) + n → get_or (told_numbers n b) i 0 ≡ get_or b.closed (((i - n) - n) + 1) 0
  told_closed i at low = further i at ∙ first_of n b.closed ((i - n) - n) (omega (arith, at, low))

  pub told_past : (i : ℕ) → (n + n) + n ≤ i → get_or (told_numbers n b) i 0 ≡ 0
  told_past i at = further i (omega (arith, at)) ∙ get_or_past (starts n (drop 1 b.closed)) ((i - n) - n) 0 (omega (arith, at, length_starts n (drop 1 b.closed)))

-- what was told has not fallen of any region
pub synced_rose : (n : ℕ) (a b : Numbers) → NoMore (told_numbers n a) (told_numbers n b) → (r : ℕ) → 0 < r → r ≤ n → get_or a.synced r 0 ≤ get_or b.synced r 0
synced_rose n a b later r above within =
    let was = told_synced n a (r - 1) (omega (arith, above, within)) in
    let is = told_synced n b (r - 1) (omega (arith, above, within)) in
    let here : (r - 1) + 1 ≡ r = omega (arith, above) in
    omega (arith, later (r - 1), was, is, ap (λ (k : ℕ). get_or a.synced k 0) here, ap (λ (k : ℕ). get_or b.synced k 0) here)

pub stored_rose : (n : ℕ) (a b : Numbers) → NoMore (told_numbers n a) (told_numbers n b) → (r : ℕ) → 0 < r → r ≤ n → get_or a.stored r 0 ≤ get_or b.stored r 0
stored_rose n a b later r above within =
    let was = told_stored n a (n + r - 1) (omega (arith, above)) (omega (arith, above, within)) in
    let is = told_stored n b (n + r - 1) (omega (arith, above)) (omega (arith, above, within)) in
    let there : (n + r - 1 - n) + 1 ≡ r = omega (arith, above) in
    omega (arith, later (n + r - 1), was, is, ap (λ (k : ℕ). get_or a.stored k 0) there, ap (λ (k : ℕ). get_or b.stored k 0) there)

-- what was told later than before, and then later still
pub told_trans : {D : Type 0} (k : ℕ) (a : Device D) (m : ℕ) (b : Device D) (n : ℕ) (c : Device D) → TellsLater k a m b → TellsLater m b n c → TellsLater k a n c
told_trans k a m b n c f g = no_more-trans (told_numbers k (numbers_of a)) (told_numbers m (numbers_of b)) (told_numbers n (numbers_of c)) f g
