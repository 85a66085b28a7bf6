-- What a handler's pass of one group's server knows.
use Rattle.std.specs.Prelude.{◌≡◌, ℕ, Bool, false, Result, Option, Some, None}
use Rattle.region_model.specs.Journal.{Caller}
use Rattle.handler_threads.specs.region_lock.declared.answers.PutRefusal.{PutRefusal}
use Rattle.handler_threads.specs.region_lock.declared.naming.LockNaming.{Ghosts}
use Rattle.handler_threads.specs.region_lock.Puts.{IsFaultExact}
use Rattle.handler_threads.specs.log_service.Places.{ServiceId}
use Rattle.server_model.specs.Pass.{Pass as ThePass, Naming, IsLater}
use Rattle.server_model.specs.Steps.{IsQuietPass}
use Rattle.handler_threads.specs.region_calls.Answers.{point_seen}
use Rattle.handler_threads.specs.region_calls.Passes.{knows, nothing_known, IsPassOf}
use Rattle.handler_threads.specs.region_calls.declared.pass.Pass.{Pass}

-- what a pass that isn't there knows
abbrev pub nobody : ThePass
nobody = record { handler = 0; calls = 0; known = λ r. nothing_known; broken = false }

module _ {N : Type 0} {g : Ghosts N} where
  abbrev pub known_by : Option (Pass N g) → ThePass
  known_by None = nobody
  known_by (Some p) = knows p

  -- there is such a pass exactly where there is such a server, and it is one of its
  abbrev pub IsPassAt : Option ServiceId → Option (Pass N g) → Type 0
  IsPassAt None None = Unit {0}
  IsPassAt None (Some p) = ⊥
  IsPassAt (Some place) None = ⊥
  IsPassAt (Some place) (Some p) = IsPassOf place p

  -- where there is a pass, it is this handler's
  abbrev pub HasHandlerAt : ℕ → Option (Pass N g) → Type 0
  HasHandlerAt h None = Unit {0}
  HasHandlerAt h (Some p) = (knows p).handler ≡ h

  -- when a put that tells a fault may, by what these passes knew and know
  abbrev pub IsExactAt : Bool → ℕ → Result ℕ PutRefusal → Option (Pass N g) → Option (Pass N g) → Type 0
  IsExactAt sync r result None q = Unit {0}
  IsExactAt sync r result (Some p) None = Unit {0}
  IsExactAt sync r result (Some p) (Some q) = IsFaultExact sync r result p.seat.device.knows q.seat.device.knows

-- the call of this number, by the handler of this pass
abbrev pub call_by : ThePass → ℕ → Caller
call_by p n = record { handler = p.handler; call = n }

-- a look at a region's point
pub record Looks (name : Naming) (r point : ℕ) (old new : ThePass) : Type 0 where
  pub point_is : point ≡ point_seen name r new
  pub later : IsLater old new
  pub own : IsQuietPass old new
  pub used : new.calls ≡ old.calls
