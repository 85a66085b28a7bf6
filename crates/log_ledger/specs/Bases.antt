-- With which numbers the regions of a device begin.
use Rattle.std.specs.Prelude.{◌≡◌, ◌≢◌, ℕ, ◌+◌, ◌<◌, ◌≤◌, ◌^◌, List, get_or, Contains, AllPairs}
use Rattle.seq_accounting.specs.declared.region.RegionMark.{RegionMark}
use Rattle.log_ledger.specs.declared.base.RegionBase.{RegionBase}

pub record IsBase (m : RegionBase) : Type 0 where
  pub given : 1 ≤ m.region
  pub region : m.region ≤ 64
  pub flushed : m.flushed < 2 ^ 48
  pub store_given : 1 ≤ m.next_store
  pub store : m.next_store ≤ 2 ^ 63 + 1

abbrev pub AreOther : RegionBase → RegionBase → Type 0
AreOther m n = m.region ≢ n.region

-- no two are of one region
pub record AreRegions (regions : List RegionBase) : Type 0 where
  pub each : (m : RegionBase) → Contains regions m → IsBase m
  pub apart : AllPairs AreOther regions

-- a region is one of these
abbrev pub IsAmong : List RegionBase → ℕ → Type 0
IsAmong regions r = (m : RegionBase) × Contains regions m × (m.region ≡ r)

abbrev pub mark_of : RegionBase → RegionMark
mark_of m = record { region = m.region; flushed = m.flushed }

-- of each of the regions the list has its number, and 0 of any other one
pub record AreNumbersOf (number : RegionBase → ℕ) (regions : List RegionBase) (numbers : List ℕ) : Type 0 where
  pub named : (m : RegionBase) → Contains regions m → get_or numbers m.region 0 ≡ number m
  pub others : (r : ℕ) → ((m : RegionBase) → Contains regions m → m.region ≢ r) → get_or numbers r 0 ≡ 0
