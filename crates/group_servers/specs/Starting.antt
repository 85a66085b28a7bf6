-- A server of an opened store.
use Rattle.std.specs.Prelude.{◌≡◌, ℕ, ◌≤◌, true, List, [], length, IsTrue, Option, Some, None, Contains}
use Rattle.disk_images.specs.declared.disk.Disk.{Ghosts}
use Rattle.handler_threads.specs.log_service.log_halves.declared.name.ServiceNaming.{Ghosts as LogGhosts}
use Rattle.handler_threads.specs.log_service.declared.seats.LogSeat.{LogSeat}
use Rattle.handler_threads.specs.log_service.Places.{ServiceId}
use Rattle.handler_threads.specs.region_calls.declared.naming.ServerNaming.{Ghosts as NameGhosts}
use Rattle.handler_threads.specs.region_calls.declared.passes.Passes.{Passes}
use Rattle.handler_threads.specs.region_calls.declared.store.OpenedStore.{OpenedStore}
use Rattle.handler_threads.specs.region_calls.Closes.{HasElapsed, IsLeft}
use Rattle.handler_threads.specs.region_calls.Deals.{passes_out, passes_back, ArePassesOf, AreSeatsOf}
use Rattle.handler_threads.specs.region_calls.Names.{IsNameOf}
use Rattle.handler_threads.specs.region_calls.Store.{IsStore, regions_of}
use Rattle.handler_threads.specs.region_lock.declared.naming.LockNaming.{Ghosts as LockGhosts}
use Rattle.region_versions.specs.declared.naming.VersionsNaming.{Ghosts as VersionGhosts}
use Rattle.server_model.specs.Closing.{Leaves}
use Rattle.server_model.specs.Pass.{Pass as ThePass, IsFresh}

-- each of these passes knows what a start gives it: no call was made with it
abbrev pub AreUnused : List ThePass → Type 0
AreUnused passes = (p : ThePass) → Contains passes p → IsFresh p.handler p

-- a server has the regions of this opened store
abbrev pub HasRegionsOf : {D : Type 0} → OpenedStore D → ServiceId → Type 0
HasRegionsOf o place = place.regions ≡ regions_of o

module _ {D N : Type 0} (f : Ghosts D) (s : NameGhosts N) (g : LockGhosts N) (l : LogGhosts N) (v : VersionGhosts N) where
  -- the name is that of this opened store
  pub record IsNamedBy (o : OpenedStore D) : Type 0 where
    pub store : IsStore f o
    pub name : IsNameOf f s g l v o

  -- the same where there is one
  abbrev pub IsNamedAt : Option (OpenedStore D) → Type 0
  IsNamedAt None = Unit {0}
  IsNamedAt (Some o) = IsNamedBy o

  -- a disk of a server that gave it back without its regions: what these passes know, a journal of each region has and the disk keeps
  pub record HasLeft (passes : List ThePass) (disk : D) : Type 0 where
    pub left : IsTrue f.told → IsLeft s.name passes l.start (f.view disk)
    pub elapsed : IsTrue f.told → ∥ HasElapsed l.start l.past s.found s.name.regions (f.view disk) ∥₁
    pub leaves : IsTrue f.told → ∥ Leaves s.found (f.view disk) true s.name.regions ∥₁
    pub later : l.faults ≤ f.faults disk

  -- the disk of a server that was let go before anybody called it
  pub record HasLetGo (disk : D) : Type 0 where
    pub passes : List ThePass
    pub unused : AreUnused passes
    pub left : HasLeft passes disk

  -- the same where there is one
  abbrev pub HasLetGoAt : Option (OpenedStore D) → Option D → Type 0
  HasLetGoAt None None = Unit {0}
  HasLetGoAt None (Some d) = ⊥
  HasLetGoAt (Some o) None = ⊥
  HasLetGoAt (Some o) (Some d) = HasLetGo d

module _ {N : Type 0} {g : LockGhosts N} where
  -- a server at this place with its passes and seats, none of which was handed out
  pub record IsNew (handlers : ℕ) (place : ServiceId) (p : Passes N g) (seats : List LogSeat) : Type 0 where
    pub none : (passes_out p ≡ 0) × (passes_back p ≡ [])
    pub passes : ArePassesOf place handlers p
    pub seats_are : (length seats ≡ 2) × AreSeatsOf place seats

  -- the same where there is one
  abbrev pub IsNewAt : ℕ → Option ServiceId → Option (Passes N g) → Option (List LogSeat) → Type 0
  IsNewAt handlers None None None = Unit {0}
  IsNewAt handlers None None (Some seats) = ⊥
  IsNewAt handlers None (Some p) seats = ⊥
  IsNewAt handlers (Some place) None seats = ⊥
  IsNewAt handlers (Some place) (Some p) None = ⊥
  IsNewAt handlers (Some place) (Some p) (Some seats) = IsNew handlers place p seats
