-- What the close of a group's server leaves.
use Rattle.std.specs.Prelude.{◌≡◌, ◌≤◌, Bool, true, false, List, map, IsTrue, Contains, Option, Some, None}
use Rattle.std.specs.List.{range_with_len}
use Rattle.std.specs.Global.{Vec}
use Rattle.disk_images.specs.declared.disk.Disk.{Ghosts}
use Rattle.disk_images.specs.Calls.{Rose}
use Rattle.handler_threads.specs.log_service.log_halves.declared.name.ServiceNaming.{Ghosts as LogGhosts}
use Rattle.handler_threads.specs.region_calls.declared.closed.ClosedRegion.{ClosedRegion}
use Rattle.handler_threads.specs.region_calls.declared.naming.ServerNaming.{Ghosts as NameGhosts}
use Rattle.handler_threads.specs.region_calls.declared.passes.Passes.{Passes}
use Rattle.handler_threads.specs.region_calls.Closes.{HasElapsed, HasSurvived}
use Rattle.handler_threads.specs.region_calls.Deals.{passes_back}
use Rattle.handler_threads.specs.region_calls.Wordings.{region_of}
use Rattle.handler_threads.specs.region_lock.declared.naming.LockNaming.{Ghosts as LockGhosts}
use Rattle.region_versions.specs.declared.naming.VersionsNaming.{Ghosts as VersionGhosts}
use Rattle.server_model.specs.Closing.{IsClosedRegion, Survives, Leaves}
use Rattle.server_model.specs.Pass.{Pass as ThePass}
use Rattle.group_servers.specs.declared.shutting.ServerEnd.{ServerEnd}
use Rattle.group_servers.specs.Starting.{HasLeft}

module _ {D N : Type 0} (f : Ghosts D) (s : NameGhosts N) (g : LockGhosts N) (l : LogGhosts N) (v : VersionGhosts N) where
  -- a server was closed, whose passes know this: its disk, whether a fault ended its log, and its regions
  pub record HasClosed (passes : List ThePass) (disk : D) (broken : Bool) (regions : List ClosedRegion) : Type 0 where
    pub numbers : map (λ (x : ClosedRegion). x.region) regions ≡ range_with_len 1 s.name.regions
    pub each : (x : ClosedRegion) → Contains regions x → IsClosedRegion s.name x.region passes (region_of x)
    pub survives : IsTrue f.told → (x : ClosedRegion) → Contains regions x → ∥ Survives (f.view disk) broken x.region (region_of x) ∥₁
    pub survived : IsTrue f.told → (x : ClosedRegion) → Contains regions x → ∥ HasSurvived l.start (f.view disk) x.region (region_of x) ∥₁
    pub elapsed : IsTrue f.told → ∥ HasElapsed l.start l.past s.found s.name.regions (f.view disk) ∥₁
    pub leaves : IsTrue f.told → ∥ Leaves s.found (f.view disk) broken s.name.regions ∥₁
    pub seen_broken : (p : ThePass) → Contains passes p → p.broken ≡ true → broken ≡ true
    pub cause : broken ≡ true → Rose l.faults (f.faults disk)
    pub later : l.faults ≤ f.faults disk

  -- or no memory was found for its regions, and it gave its disk
  abbrev pub EndsSo : List ThePass → D → Bool → Option (Vec ClosedRegion) → Type 0
  EndsSo passes disk broken (Some regions) = HasClosed passes disk broken regions.items
  EndsSo passes disk broken None = (broken ≡ false) × HasLeft f s g l v passes disk

  abbrev pub HasEnded : List ThePass → ServerEnd D → Type 0
  HasEnded passes e = EndsSo passes e.disk e.broken e.regions

  -- the same where there is one
  abbrev pub HasEndedAt : Option (Passes N g) → Option (ServerEnd D) → Type 0
  HasEndedAt None None = Unit {0}
  HasEndedAt None (Some e) = ⊥
  HasEndedAt (Some p) None = ⊥
  HasEndedAt (Some p) (Some e) = HasEnded (passes_back p) e
