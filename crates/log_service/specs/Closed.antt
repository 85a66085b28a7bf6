-- What the close of a service hands on, of one region.
use Rattle.std.specs.Prelude.{◌≡◌, ℕ, ◌+◌, ◌-◌, ◌^◌, ◌<◌, ◌≤◌, Bool, false, List, length, take, get_or, slice_get, Contains, Option, Some}
use Rattle.cell_model.specs.Order.{VersionKey, Payload, Content}
use Rattle.log_model.specs.declared.name.Name.{Name}
use Rattle.log_model.specs.Entry.{Entry}
use Rattle.log_model.specs.declared.name.NameKind.TheVariants as kinds
use Rattle.log_model.specs.Files.{Files, IsLogFile, IsLastLog, IsFit, IsSound, IsPresent}
use Rattle.log_model.specs.Recovered.{IsRecovered, IsStored, IsContent, IsLast, IsFlushed, HasFamily, RecoversAlike, put_entries}
use Rattle.disk_images.specs.Crash.{DiskView, IsImageNow, Since}
use Rattle.append_ring.specs.Rules.{base_of}
use Rattle.append_ring.specs.declared.pass.RingKey.{RingKey}
use Rattle.crossbeam_queue.specs.Passes.{view}
use Rattle.log_trucks.specs.Held.{AreHeld}
use Rattle.log_halves.specs.declared.item.Item.{Item}
use Rattle.log_halves.specs.Items.{appended}

-- an image has the content with the first k of these entries, up to that number
pub record Image (r last : ℕ) (c : Content) (pushed : List Entry) (J : Files) (k : ℕ) : Type 0 where
  pub fit : IsFit J
  pub within : k ≤ length pushed
  pub content : IsContent (IsRecovered J r) (put_entries c (take k pushed))
  pub last_is : IsLast J r (last + k)

-- Each image has the region's content at the start with the first of the entries pushed, up to what was synced and stored, and all of them where the log isn't broken.
pub record Commits (disk : DiskView) (broken : Bool) (r last : ℕ) (c : Content) (pushed : List Entry) (synced stored closed : ℕ) : Type 0 where
  pub images : (J : Files) → IsImageNow disk J → (k : ℕ) × Image r last c pushed J k × (synced ≤ last + k) × (stored ≤ last + k) × (broken ≡ false → k ≡ length pushed)
  pub keeps_stored : (J : Files) (v : VersionKey) (p : Payload) → IsImageNow disk J → IsRecovered J r v p → v.number ≤ stored → IsStored J r v p
  pub keeps_closed : (J : Files) (name : Name) (es : List Entry) (e : Entry) → IsImageNow disk J → IsLastLog J name → IsLogFile J name es → Contains es e → e.region ≡ r → closed < e.number
  pub bound : stored ≤ last + length pushed
  pub bound_synced : synced ≤ last + length pushed

-- at each moment since the start too, whatever was synced then
abbrev pub CommitsSince : ℕ → DiskView → ℕ → ℕ → Content → List Entry → Type 0
CommitsSince start disk r last c pushed = Since start (λ J. ∥ ((k : ℕ) × Image r last c pushed J k) ∥₁) disk

-- the appends pushed under a pass are these entries
abbrev pub HasPushedEntries : RingKey Item → List Entry → Type 0
HasPushedEntries p es = AreHeld (appended (view p.pass).pushed) es

-- The word of region r in what a close gives, where there are n regions.
abbrev pub synced_in : List ℕ → ℕ → ℕ
synced_in words r = get_or words (r - 1) 0

abbrev pub stored_in : ℕ → List ℕ → ℕ → ℕ
stored_in n words r = get_or words (n + r - 1) 0

abbrev pub closed_in : ℕ → List ℕ → ℕ → ℕ
closed_in n words r = get_or words (n + n + r - 1) 0

-- the same with the words as the close gives them, where there are n regions
abbrev pub CommitsRegion : DiskView → Bool → ℕ → List ℕ → List ℕ → ℕ → Content → List Entry → Type 0
CommitsRegion disk broken n words first r c pushed = Commits disk broken r (base_of first r) c pushed (synced_in words r) (stored_in n words r) (closed_in n words r)

-- a region had this content in these files, and the appends pushed under its pass are these entries
pub record Pushed (found : Files) (passes : List (Option (RingKey Item))) (r : ℕ) (c : Content) (pushed : List Entry) : Type 0 where
  pub above : 0 < r
  pub pass : RingKey Item
  pub is : slice_get passes (r - 1) ≡ Some (Some pass)
  pub region : pass.region ≡ r
  pub content : IsContent (IsRecovered found r) c
  pub entries : HasPushedEntries pass pushed

-- What the files hold besides. Each image is sound where the files found were, with numbers that leave room for those given since, and each
-- region above these recovers as it did. Where the log isn't broken, no log but the last one is wholly flushed.
pub record LeavesFiles (found : Files) (disk : DiskView) (broken : Bool) (regions : ℕ) : Type 0 where
  pub sound : (J : Files) → IsImageNow disk J → IsSound found → ((m : Name) → IsPresent found m → m.number ≤ 2 ^ 61 + 1) → IsSound J
  pub others : (J : Files) (r : ℕ) → IsImageNow disk J → regions < r → RecoversAlike found J r
  pub archived : broken ≡ false → (name : Name) (entries : List Entry) → IsLogFile disk.files name entries → name.kind ≡ kinds.Log
      → (IsLastLog disk.files name → ⊥)
      → (e : Entry) × (f : List ℕ) × Contains entries e × HasFamily e f × ((n : ℕ) → IsFlushed disk.files e.region f n → n < e.number)
