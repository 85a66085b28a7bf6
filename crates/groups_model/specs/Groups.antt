-- Regions in groups, each of which a server of its own serves.
use Rattle.std.specs.Prelude.{◌≡◌, ◌≢◌, ℕ, ◌+◌, ◌-◌, ◌%◌, ◌≤◌, ◌==◌, Bool, List, [], ◌∷◌, filter}
use Rattle.region_model.specs.Calls.{Call, Put, Scan, Flush, Roll, Reply}
use Rattle.script_model.specs.Calls.{Asked}
use Rattle.server_model.specs.Pass.{Pass, Naming}
use Rattle.server_model.specs.Steps.{Step, Runs}

-- of so many groups the one that a region is of
abbrev pub group_of : ℕ → ℕ → ℕ
group_of groups r = (r - 1) % groups + 1

-- the one on which a handler's call is made: a roll is of the handler's
abbrev pub group_for : ℕ → ℕ → Call → ℕ
group_for groups h (Put r sync batch) = group_of groups r
group_for groups h (Scan view r from to) = group_of groups r
group_for groups h (Flush r family) = group_of groups r
group_for groups h Roll = group_of groups h

abbrev pub IsGroup : ℕ → ℕ → Type 0
IsGroup groups k = (1 ≤ k) × (k ≤ groups)

-- those of calls on one group, in order
abbrev pub is_on : ℕ → ℕ → Reply → Bool
is_on groups k y = group_for groups y.handler y.call == k

abbrev pub replies_on : ℕ → ℕ → List Reply → List Reply
replies_on groups k replies = filter (is_on groups k) replies

abbrev pub is_asked_on : ℕ → ℕ → Asked → Bool
is_asked_on groups k a = group_for groups a.handler a.call == k

abbrev pub asked_on : ℕ → ℕ → List Asked → List Asked
asked_on groups k asks = filter (is_asked_on groups k) asks

-- One call: on its group's server as on any, and what the passes of the others know stays.
pub record GroupStep (groups : ℕ) (names : ℕ → Naming) (time : ℕ) (old : ℕ → Pass) (reply : Reply) (new : ℕ → Pass) : Type 0 where
  pub here : (k : ℕ) → k ≡ group_for groups reply.handler reply.call → Step (names k) time (old k) reply (new k)
  pub elsewhere : (k : ℕ) → k ≢ group_for groups reply.handler reply.call → new k ≡ old k

-- a handler's calls, one after the other
abbrev pub GroupRuns : ℕ → (ℕ → Naming) → ℕ → (ℕ → Pass) → List Reply → (ℕ → Pass) → Type 0
GroupRuns groups names time old [] new = (k : ℕ) → new k ≡ old k
GroupRuns groups names time old (reply ∷ replies) new =
    (mid : ℕ → Pass) × GroupStep groups names time old reply mid × GroupRuns groups names time mid replies new

-- so each server sees the calls on it
abbrev pub EachGroupRuns : Type 0
EachGroupRuns = (groups : ℕ) (names : ℕ → Naming) (time : ℕ) (old new : ℕ → Pass) (replies : List Reply)
    → GroupRuns groups names time old replies new
    → (k : ℕ) → Runs (names k) time (old k) (replies_on groups k replies) (new k)
