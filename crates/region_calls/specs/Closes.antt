-- What the close of a server hands on.
use Rattle.std.specs.Prelude.{◌≡◌, ℕ, ◌+◌, ◌<◌, ◌≤◌, ◌^◌, true, List, Contains, Option, Some, slice_get}
use Rattle.atomic_table.specs.Seated.{TableId}
use Rattle.append_ring.specs.declared.pass.RingKey.{RingKey}
use Rattle.log_model.specs.Files.{Files}
use Rattle.log_model.specs.Recovered.{RecoversAlike}
use Rattle.disk_images.specs.Crash.{DiskView, Since}
use Rattle.region_model.specs.Journal.{Base, IsJournal}
use Rattle.region_model.specs.Lines.{Line, edits_in, last_in}
use Rattle.region_model.specs.Crash.{Fits}
use Rattle.pass_calls.specs.log_service.log_halves.declared.item.Item.{Item}
use Rattle.pass_calls.specs.log_service.Closed.{HasPushedEntries, synced_in, stored_in, closed_in}
use Rattle.pass_calls.specs.log_service.Moments.{GoesOnFrom}
use Rattle.server_model.specs.Pass.{Pass, Naming}
use Rattle.server_model.specs.Closing.{Region, IsClosedRegion, Survives}
use Rattle.pass_calls.specs.region_lock.Met.{IsMet}
use Rattle.pass_calls.specs.region_lock.Parts.{AreOwned, entries_in}

-- a region's base and its journal, in which all that each of these passes knows of it meets
pub record HasMet (bases : ℕ → Base) (handlers : ℕ) (passes : List Pass) (r : ℕ) (base : Base) (xs : List Line) : Type 0 where
  pub base_is : base ≡ bases r
  pub journal : IsJournal r base (edits_in r xs)
  pub limit : last_in base xs < 2 ^ 48
  pub owners : AreOwned handlers xs
  pub each : (p : Pass) → Contains passes p → IsMet base (edits_in r xs) p.handler (p.known r)

-- the region after this place was taken apart so: its key of the ring is back in its place, and the entries pushed under it are the journal's
pub record IsTaken (bases : ℕ → Base) (handlers : ℕ) (ring : TableId) (passes : List Pass) (places : List (Option (RingKey Item))) (place : ℕ) (base : Base) (xs : List Line) : Type 0 where
  pub met : HasMet bases handlers passes (place + 1) base xs
  pub pass : RingKey Item
  pub there : slice_get places place ≡ Some (Some pass)
  pub of_ring : pass.pass.table_id ≡ ring
  pub of_region : pass.region ≡ place + 1
  pub pushed : HasPushedEntries pass (entries_in (place + 1) xs)

-- a region with the words of a log of n regions
abbrev pub worded : ℕ → List ℕ → ℕ → Base → List Line → Region
worded n words r base xs = record { base = base; edits = edits_in r xs; synced = synced_in words r; stored = stored_in n words r; closed = closed_in n words r }

-- the synced word and the stored one lie in the journal
pub record AreWordsIn (synced stored : ℕ) (base : Base) (xs : List Line) : Type 0 where
  pub synced_most : synced ≤ last_in base xs
  pub least : base.last ≤ stored
  pub most : stored ≤ last_in base xs

-- at each moment from this one on each image has the base with a beginning of the edits
abbrev pub HasSurvived : ℕ → DiskView → ℕ → Region → Type 0
HasSurvived start disk r x = Since start (λ J. ∥ ((m : ℕ) × Fits J r x.base x.edits m) ∥₁) disk

-- From the start on time went on, and the images of former moments stay; at each moment since then the regions above these recover as they did
-- when the store was found.
pub record HasElapsed (start : ℕ) (past : ℕ → Files → Type 0) (found : Files) (regions : ℕ) (disk : DiskView) : Type 0 where
  pub goes_on : GoesOnFrom start past disk
  pub others : (t : ℕ) (J : Files) (r : ℕ) → start ≤ t → t ≤ disk.clock → disk.image t J → regions < r → RecoversAlike found J r

-- of a server that could not be closed: a region has a journal that its passes know and the disk keeps, now and at each moment since the start
abbrev pub IsLeft : Naming → List Pass → ℕ → DiskView → Type 0
IsLeft name passes start disk = (r : ℕ) → 1 ≤ r → r ≤ name.regions
    → ∥ ((x : Region) × IsClosedRegion name r passes x × Survives disk true r x × HasSurvived start disk r x) ∥₁
