-- Numbers of a region, over plain variables: the same is found at once here, and only after long exploring among all that a call knows.
use Rattle.std.proofs.Common.{◌≡◌, ℕ, ◌+◌, ◌-◌, ◌^◌, ◌<◌, ◌≤◌, arith}

-- a hand's number from its place
pub place_back : (h : ℕ) → 1 ≤ h → h - 1 + 1 ≡ h
place_back h least = omega (arith, least)

pub next_is_one : (w n : ℕ) → n ≡ w + 1 → 1 ≤ n
next_is_one w n is = omega (arith, is)

-- the next number after a write point
pub next_above : (seen w n : ℕ) → seen ≤ w → n ≡ w + 1 → seen < n
next_above seen w n within is = omega (arith, within, is)

pub next_within : (w v n : ℕ) → n ≡ w + 1 → v ≡ w → v + 1 < 2 ^ 48 → n < 2 ^ 48
next_within w v n is same limit = omega (arith, is, same, limit)

pub last_spent : (w v n : ℕ) → n ≡ w → v ≡ w → v < 2 ^ 48 → 2 ^ 48 ≤ v + 1 → n ≡ 2 ^ 48 - 1
last_spent w v n is same limit spent = omega (arith, is, same, limit, spent)

pub below_same : (k w n : ℕ) → k < w → n ≡ w → k < n
below_same k w n below is = omega (arith, below, is)
