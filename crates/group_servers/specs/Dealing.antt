-- The passes of one group's server that no handler has.
use Rattle.std.specs.Prelude.{◌≡◌, ℕ, ◌+◌, ◌<◌, List, [], ◌∷◌, ◌++◌, length, Option, Some, None}
use Rattle.handler_threads.specs.log_service.declared.seats.LogSeat.{LogSeat}
use Rattle.handler_threads.specs.log_service.Places.{ServiceId}
use Rattle.handler_threads.specs.region_lock.declared.naming.LockNaming.{Ghosts}
use Rattle.server_model.specs.Pass.{IsFresh}
use Rattle.handler_threads.specs.region_calls.Backs.{AllBack}
use Rattle.handler_threads.specs.region_calls.Deals.{passes_out, passes_back, ArePassesOf}
use Rattle.handler_threads.specs.region_calls.Passes.{knows}
use Rattle.handler_threads.specs.region_calls.declared.pass.Pass.{Pass}
use Rattle.handler_threads.specs.region_calls.declared.passes.Passes.{Passes}

module _ {N : Type 0} {g : Ghosts N} where
  -- those of the server at this place, where there is one
  abbrev pub ArePassesAt : Option ServiceId → ℕ → Option (Passes N g) → Type 0
  ArePassesAt None handlers None = Unit {0}
  ArePassesAt None handlers (Some p) = ⊥
  ArePassesAt (Some place) handlers None = ⊥
  ArePassesAt (Some place) handlers (Some p) = ArePassesOf place handlers p

  -- one is not handed out yet
  abbrev pub IsLeftAt : ℕ → Option (Passes N g) → Type 0
  IsLeftAt handlers None = Unit {0}
  IsLeftAt handlers (Some p) = passes_out p < handlers

  -- the next one was handed out
  pub record IsNext (old : Passes N g) (pass : Pass N g) (new : Passes N g) : Type 0 where
    pub fresh : IsFresh (passes_out old + 1) (knows pass)
    pub out : passes_out new ≡ passes_out old + 1
    pub back : passes_back new ≡ passes_back old

  abbrev pub IsNextAt : Option (Passes N g) → Option (Pass N g) → Option (Passes N g) → Type 0
  IsNextAt None None None = Unit {0}
  IsNextAt None None (Some q) = ⊥
  IsNextAt None (Some x) q = ⊥
  IsNextAt (Some p) None q = ⊥
  IsNextAt (Some p) (Some x) None = ⊥
  IsNextAt (Some p) (Some x) (Some q) = IsNext p x q

  -- one is out that isn't back
  abbrev pub IsRoomAt : Option (Passes N g) → Type 0
  IsRoomAt None = Unit {0}
  IsRoomAt (Some p) = length (passes_back p) < passes_out p

  -- one came back
  pub record IsBack (old : Passes N g) (pass : Pass N g) (new : Passes N g) : Type 0 where
    pub back : passes_back new ≡ passes_back old ++ knows pass ∷ []
    pub out : passes_out new ≡ passes_out old

  abbrev pub IsBackAt : Option (Passes N g) → Option (Pass N g) → Option (Passes N g) → Type 0
  IsBackAt None None None = Unit {0}
  IsBackAt None None (Some q) = ⊥
  IsBackAt None (Some x) q = ⊥
  IsBackAt (Some p) None q = ⊥
  IsBackAt (Some p) (Some x) None = ⊥
  IsBackAt (Some p) (Some x) (Some q) = IsBack p x q

  -- as many of them were handed out, of as many handlers
  abbrev pub IsEvenAt : ℕ → ℕ → ℕ → Option (Passes N g) → Type 0
  IsEvenAt handlers out these None = Unit {0}
  IsEvenAt handlers out these (Some p) = (these ≡ handlers) × (passes_out p ≡ out)

  -- all are back, and both seats of those that help
  abbrev pub AreBackAt : Option ServiceId → ℕ → Option (Passes N g) → Option (List LogSeat) → Type 0
  AreBackAt None handlers None None = Unit {0}
  AreBackAt None handlers None (Some seats) = ⊥
  AreBackAt None handlers (Some p) seats = ⊥
  AreBackAt (Some place) handlers None seats = ⊥
  AreBackAt (Some place) handlers (Some p) None = ⊥
  AreBackAt (Some place) handlers (Some p) (Some seats) = AllBack place handlers p seats
