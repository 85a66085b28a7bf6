-- Handlers with their passes, before and after their work.
use Rattle.std.specs.Prelude.{◌≡◌, ℕ, ◌+◌, ◌<◌, ◌≤◌, ◌^◌, false, List, [], ◌∷◌, Option, Some, None}
use Rattle.server_model.specs.Pass.{Pass as ThePass, Naming, IsFresh, IsLater}
use Rattle.embedded.specs.log_service.Places.{ServiceId}
use Rattle.embedded.specs.region_lock.declared.naming.LockNaming.{Ghosts}
use Rattle.embedded.specs.region_calls.declared.pass.Pass.{Pass}
use Rattle.embedded.specs.region_calls.Passes.{knows, IsPassOf, nothing_known}
use Rattle.embedded.specs.Flushers.{MayAllFlush}
use Rattle.embedded.specs.handler_threads.Working.{AreReady, HaveWorked}
use Rattle.embedded_run.specs.declared.seated.Seated.{Seated}

-- a server on which sessions are opened
pub record IsServer (name : Naming) (time regions : ℕ) : Type 0 where
  pub some : 1 ≤ regions
  pub regions_are : regions ≡ name.regions
  pub time_fits : time < 2 ^ 63
  pub flushers : MayAllFlush name

-- what is known by a pass that isn't there
abbrev pub nobody : ThePass
nobody = record { handler = 0; calls = 0; known = λ r. nothing_known; broken = false }

module _ {N : Type 0} {g : Ghosts N} where
  abbrev pub known_in : Option (Pass N g) → ThePass
  known_in None = nobody
  known_in (Some p) = knows p

  -- the pass is there, and is one of the server at this place
  abbrev pub IsAt : ServiceId → Option (Pass N g) → Type 0
  IsAt place None = ⊥
  IsAt place (Some p) = IsPassOf place p

module _ {N H : Type 0} {g : Ghosts N} where
  abbrev pub AllAt : ServiceId → List (Seated (Pass N g) H) → Type 0
  AllAt place [] = Unit {0}
  AllAt place (s ∷ ss) = IsAt place s.pass × AllAt place ss

  abbrev pub pass_in : Seated (Pass N g) H → ThePass
  pass_in s = known_in s.pass

  abbrev pub handler_in : Seated (Pass N g) H → H
  handler_in s = s.handler

  -- the handler has the pass of this number, which nothing was done by yet
  pub record IsTaken (n : ℕ) (h : H) (s : Seated (Pass N g) H) : Type 0 where
    pub handler : s.handler ≡ h
    pub fresh : IsFresh n (pass_in s)

  -- these handlers, from this number on
  abbrev pub AreTaken : ℕ → List H → List (Seated (Pass N g) H) → Type 0
  AreTaken n [] [] = Unit {0}
  AreTaken n [] (s ∷ ss) = ⊥
  AreTaken n (h ∷ hs) [] = ⊥
  AreTaken n (h ∷ hs) (s ∷ ss) = IsTaken n h s × AreTaken (n + 1) hs ss

  -- the handler may begin
  pub record IsSeated (name : Naming) (place : ServiceId) (time regions : ℕ) (s : Seated (Pass N g) H) : Type 0 where
    pub server : IsServer name time regions
    pub there : IsAt place s.pass
    pub fresh : IsFresh (pass_in s).handler (pass_in s)
    pub number : (1 ≤ (pass_in s).handler) × ((pass_in s).handler ≤ name.handlers)

  -- the handler has worked, and says so by its own words
  pub record HasWorked (says : H → Naming → ℕ → ThePass → ThePass → H → Type 0) (name : Naming) (place : ServiceId) (time : ℕ) (old new : Seated (Pass N g) H) : Type 0 where
    pub there : IsAt place new.pass
    pub later : IsLater (pass_in old) (pass_in new)
    pub said : says old.handler name time (pass_in old) (pass_in new) new.handler

  abbrev pub AreSeated : Naming → ServiceId → (time regions : ℕ) → List (Seated (Pass N g) H) → Type 0
  AreSeated name place time regions ss = AreReady (λ p s. IsSeated name p time regions s) place ss

  abbrev pub HaveAllWorked : (H → Naming → ℕ → ThePass → ThePass → H → Type 0) → Naming → ServiceId → ℕ → List (Seated (Pass N g) H) → List (Seated (Pass N g) H) → Type 0
  HaveAllWorked says name place time olds news = HaveWorked (λ p old new. HasWorked says name p time old new) place olds news
