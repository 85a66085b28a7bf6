-- Which calls a server's name lists as flushes, where nobody knows them beforehand: all that there can be.
use Rattle.std.specs.Prelude.{ℕ, ◌<◌, ◌≤◌, ◌^◌, List, map, Contains}
use Rattle.std.specs.List.{flat_map, range_with_len}
use Rattle.region_model.specs.Journal.{Caller}
use Rattle.server_model.specs.Pass.{Naming}

abbrev pub caller_at : ℕ → ℕ → Caller
caller_at h c = record { handler = h; call = c }

-- The first so many calls of each of these handlers. It is a list for proofs alone, which nothing computes.
unfoldable pub callers : (handlers calls : ℕ) → List Caller
callers handlers calls = flat_map (λ h. map (caller_at h) (range_with_len 0 calls)) (range_with_len 1 handlers)

-- each call of its handlers may be a flush of each region
abbrev pub MayAllFlush : Naming → Type 0
MayAllFlush name = (r h c : ℕ) → 1 ≤ h → h ≤ name.handlers → c < 2 ^ 32 → Contains (name.flushes r) (caller_at h c)
