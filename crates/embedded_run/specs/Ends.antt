-- What stands once a server's handlers have worked.
use Rattle.std.specs.Prelude.{◌≡◌, ℕ, ◌≤◌, Bool, true, IsTrue, List, map, Contains}
use Rattle.std.specs.List.{range_with_len}
use Rattle.log_model.specs.Damage.{IsDamage}
use Rattle.log_model.specs.Files.{Files, IsSound}
use Rattle.disk_images.specs.Calls.{Rose}
use Rattle.disk_images.specs.Crash.{DiskView}
use Rattle.disk_images.specs.declared.disk.Disk.{Ghosts}
use Rattle.region_model.specs.Crash.{Fits}
use Rattle.server_model.specs.Pass.{Pass, Naming}
use Rattle.server_model.specs.Closing.{Region, IsClosedRegion, Survives, Leaves}
use Rattle.run_model.specs.Closed.{IsFound, FitsFrom}
use Rattle.run_model.specs.Headline.{IsHalfOpened}
use Rattle.embedded.specs.region_calls.Wordings.{region_of}
use Rattle.embedded.specs.region_calls.declared.closed.ClosedRegion.{ClosedRegion}
use Rattle.embedded.specs.region_calls.declared.refusal.StartWhy.{StartWhy}
use Rattle.embedded.specs.region_calls.declared.refusal.StartWhy.TheVariants as whys
use Rattle.embedded_run.specs.Deeds.{Deed, lasts_in, HaveDone}
use Rattle.embedded_run.specs.Receipts.{KeepsReceipts}
use Rattle.embedded_run.specs.declared.outcome.Outcome.{Outcome}
use Rattle.embedded_run.specs.declared.outcome.Outcome.TheVariants as ends

-- Each region of a closed server has one journal, in which all that these passes know of it meets.
pub record IsClosed (name : Naming) (passes : List Pass) (regions : List ClosedRegion) (broken : Bool) : Type 0 where
  pub numbers : map (λ (x : ClosedRegion). x.region) regions ≡ range_with_len 1 name.regions
  pub journals : (x : ClosedRegion) → Contains regions x → IsClosedRegion name x.region passes (region_of x)
  -- where a pass has seen the fault word, the log is broken
  pub seen_broken : (p : Pass) → Contains passes p → p.broken ≡ true → broken ≡ true

-- What was found was sound, and the bases that the name tells are what it recovered to.
pub record IsNameOf (found : Files) (name : Naming) : Type 0 where
  pub sound : IsSound found
  pub bases : (r : ℕ) → 1 ≤ r → r ≤ name.regions → IsFound found r (name.bases r)

-- From the moment at which the server is begun a crash leaves of each of these regions the base with a beginning of its edits; up to it, what an
-- opening may leave. Which moment that is isn't told.
abbrev pub FitsSince : DiskView → DiskView → List ClosedRegion → Type 0
FitsSince found left regions =
    ∥ ((start : ℕ) × FitsFrom found left start (λ J. (x : ClosedRegion) → Contains regions x → (m : ℕ) × Fits J x.region x.base (region_of x).edits m)) ∥₁

-- What a crash leaves of a closed server. Each image has each region's base with a beginning of its edits, all that was synced or stored among
-- them, and all of them where the log isn't broken (`Survives`).
pub record IsKept (found left : DiskView) (name : Naming) (passes : List Pass) (regions : List ClosedRegion) (broken : Bool) : Type 0 where
  pub opened : IsNameOf found.files name
  pub survives : (x : ClosedRegion) → Contains regions x → ∥ Survives left broken x.region (region_of x) ∥₁
  -- so each handler's own edits that it knows to be durable are there
  pub receipts : KeepsReceipts left name.regions passes
  pub leaves : ∥ Leaves found.files left broken name.regions ∥₁
  pub since : FitsSince found left regions

-- What a crash leaves of a server that no memory was found to close: each region has such a journal, which isn't handed on.
pub record IsKeptOpen (found left : DiskView) (name : Naming) (passes : List Pass) : Type 0 where
  pub opened : IsNameOf found.files name
  pub regions : (r : ℕ) → 1 ≤ r → r ≤ name.regions → ∥ ((x : Region) × IsClosedRegion name r passes x × Survives left true r x) ∥₁
  pub receipts : KeepsReceipts left name.regions passes
  pub leaves : ∥ Leaves found.files left true name.regions ∥₁

-- where a store isn't opened for damage, it is one of these files, which aren't sound, and changed no file
abbrev pub IfDamaged : StartWhy → (found left : DiskView) → Type 0
IfDamaged (whys.Damaged damage) found left = (¬ IsSound found.files) × IsDamage found.files damage × (left.files ≡ found.files)
IfDamaged _ found left = Unit {0}

module _ {D H : Type 0} where
  abbrev pub disk_of : Outcome D H → D
  disk_of (ends.Closed disk regions handlers broken) = disk
  disk_of (ends.Unclosed disk handlers) = disk
  disk_of (ends.Unopened why disk handlers) = disk

  -- The handlers worked, with these deeds, and the server was closed, or there was no memory to close it; or no server was started, and the handlers
  -- are as they were. What is said of crashes holds of a disk that tells what it holds.
  abbrev pub HasEnded : Ghosts D → (H → Naming → ℕ → Pass → Pass → H → Type 0) → (time regions : ℕ) → D → List H → Outcome D H → Type 0
  HasEnded g says time regions found befores (ends.Closed disk rs hs broken) =
      (name : Naming) × (deeds : List (Deed H)) × HaveDone says time regions befores hs.items name deeds
      × IsClosed name (lasts_in deeds) rs.items broken
      × (IsTrue g.told → IsKept (g.view found) (g.view disk) name (lasts_in deeds) rs.items broken)
  HasEnded g says time regions found befores (ends.Unclosed disk hs) =
      (name : Naming) × (deeds : List (Deed H)) × HaveDone says time regions befores hs.items name deeds
      × (IsTrue g.told → IsKeptOpen (g.view found) (g.view disk) name (lasts_in deeds))
  HasEnded g says time regions found befores (ends.Unopened why disk hs) =
      (hs.items ≡ befores) × (IsTrue g.told → IsHalfOpened (g.view found) (g.view disk) × IfDamaged why (g.view found) (g.view disk))

  -- A broken log, and a store that isn't opened for a fault of the disk, have their cause in the disk's count of faults.
  abbrev pub HasEndCause : (D → ℕ) → ℕ → Outcome D H → Type 0
  HasEndCause faults before (ends.Closed disk regions handlers broken) = broken ≡ true → Rose before (faults disk)
  HasEndCause faults before (ends.Unclosed disk handlers) = Unit {0}
  HasEndCause faults before (ends.Unopened why disk handlers) = why ≡ whys.DiskFault → Rose before (faults disk)

  -- and that count never falls
  abbrev pub HasCount : (D → ℕ) → ℕ → Outcome D H → Type 0
  HasCount faults before o = (before ≤ faults (disk_of o)) × HasEndCause faults before o
