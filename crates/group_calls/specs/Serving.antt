-- What a script's handlers do on several servers.
use Rattle.std.specs.Prelude.{ℕ, ◌≤◌, max}
use Rattle.region_model.specs.Calls.{Call, Answer}
use Rattle.region_model.specs.Journal.{Caller}
use Rattle.server_model.specs.Pass.{Pass, Naming}
use Rattle.groups_model.specs.Groups.{GroupStep}
use Rattle.script_handlers.specs.Calling.{MayCall}

-- the greatest number of a call that one of the handler's passes was used for
abbrev pub most_calls : (ℕ → Pass) → ℕ
most_calls known = max (max (known 1).calls (known 2).calls) (max (known 3).calls (known 4).calls)

-- The call may be made on each server. Handlers are numbered from 1 on, since a roll is of the group of the region with the handler's number.
pub record MayCallEach (names : ℕ → Naming) (h n : ℕ) (call : Call) : Type 0 where
  pub numbered : 1 ≤ h
  pub each : (k : ℕ) → MayCall (names k) h n call

-- a call: on its group's server as on any, and what the passes of the others know stays
abbrev pub GroupDoes : (groups : ℕ) → (ℕ → Naming) → (time : ℕ) → Caller → Call → Answer → (old new : ℕ → Pass) → Type 0
GroupDoes groups names time caller call answer old new =
    GroupStep groups names time old (record { handler = caller.handler; number = caller.call; call = call; answer = answer }) new
