-- What stands in the files of one region.
use Rattle.std.specs.Prelude.{◌≡◌, ◌⊎◌, ℕ, ◌+◌, ◌<◌, ◌≤◌, ◌^◌, List, [], Contains, Option}
use Rattle.std.specs.List.{AllByRecursion}
use Rattle.log_model.specs.declared.name.Name.{Name}
use Rattle.log_model.specs.declared.name.NameKind.TheVariants as kinds
use Rattle.log_model.specs.Entry.{Entry}
use Rattle.log_model.specs.Files.{Files, content, IsPresent, IsLogFile}
use Rattle.log_model.specs.StoreText.{Store}
use Rattle.log_model.specs.Recovered.{IsGreatest, IsCounting, IsFlushed}
use Rattle.recovery_laws.specs.Change.{HasText}
use Rattle.wal_split.specs.Flushed.{flushed_of}
use Rattle.region_replay.specs.declared.found.RegionFiles.{RegionFiles}
use Rattle.region_replay.specs.Bases.{Numbered, AreStores, AreUnflushed, stores_cells}
use Rattle.region_replay.specs.Cuts.{AreEdits}

-- n is the greatest of this number and the sequence ids of these entries
pub record IsTop (es : List Entry) (least n : ℕ) : Type 0 where
  pub reached : ((e : Entry) × Contains es e × (e.number ≡ n)) ⊎ (n ≡ least)
  pub low : least ≤ n
  pub bound : (e : Entry) → Contains es e → e.number ≤ n

-- a store of the region that counts goes up to this number
abbrev pub Reaches : Files → ℕ → ℕ → Type 0
Reaches files r n = (name : Name) × (s : Store) × IsCounting files r name s × (s.to ≡ n)

-- what holds of it on any disk, told or not
pub record IsInOrder (told : Type 0) (x : RegionFiles) : Type 0 where
  pub given : 1 ≤ x.region
  pub region : x.region ≤ 64
  pub above : (e : Entry) → Contains x.unflushed.items e → x.flushed.whole < e.number
  pub low : (e : Entry) → Contains x.unflushed.items e → e.number < 2 ^ 48
  pub whole : x.flushed.whole ≤ x.flushed.last
  pub last : x.flushed.last < 2 ^ 48
  pub stored : AllByRecursion (λ c. c.0 ≤ x.flushed.last) x.stored
  pub next_given : 1 ≤ x.next_store
  pub next : x.next_store ≤ 2 ^ 63
  pub edits : AreEdits told x.edits.items
  pub of : (m : Name) → Contains x.edits.items m → m.region ≡ x.region

-- the entry stands in an edits file
pub record IsEdited (files : Files) (e : Entry) : Type 0 where
  pub name : Name
  pub entries : List Entry
  pub file : IsLogFile files name entries
  pub kind : name.kind ≡ kinds.Edits
  pub member : Contains entries e

-- It is what stands in these files: the cells of all stores of the region that count, what is flushed of the whole and of
-- each family, the entries with a cell that isn't, each of them in an edits file, and the names of all edits files of the region, which have entries of the region alone.
pub record IsFound (files : Files) (x : RegionFiles) : Type 0 where
  pub stores : List Numbered
  pub are_stores : AreStores files x.region stores
  pub cells : x.stored ≡ stores_cells stores
  pub unflushed : AreUnflushed files x.region x.unflushed.items
  pub edited : (e : Entry) → Contains x.unflushed.items e → IsEdited files e
  pub whole : IsFlushed files x.region [] x.flushed.whole
  pub flushed : (f : List ℕ) → IsFlushed files x.region f (flushed_of x.flushed f)
  pub last : IsGreatest (Reaches files x.region) x.flushed.last
  pub next : (m : Name) → m.kind ≡ kinds.Store → m.region ≡ x.region → IsPresent files m → m.number < x.next_store
  pub few : (n : ℕ) → ((m : Name) → m.kind ≡ kinds.Store → m.region ≡ x.region → IsPresent files m → m.number ≤ n) → x.next_store ≤ n + 1
  pub texts : (m : Name) → Contains x.edits.items m → (es : List Entry) × (ended : Option ℕ) × HasText m es ended (content files m) × ((e : Entry) → Contains es e → e.region ≡ x.region)
  pub all : (m : Name) → m.kind ≡ kinds.Edits → m.region ≡ x.region → IsPresent files m → Contains x.edits.items m
