-- How what was read and left of a store goes to its regions.
use Rattle.std.specs.Prelude.{◌≡◌, ◌≢◌, ◌⊎◌, ◌+◌, ◌-◌, ◌<◌, ◌≤◌, ◌^◌, ◌==◌, ◌&&◌, max, Bool, true, false, ℕ, List, [], ◌∷◌, ◌++◌, filter, length, Contains, slice_index_or, slice_set}
use Rattle.std.specs.List.{flat_map}
use Rattle.cell_model.specs.Order.{NumberedCell}
use Rattle.log_model.specs.declared.name.Name.{Name}
use Rattle.log_model.specs.declared.name.NameKind.{NameKind}
use Rattle.log_model.specs.declared.name.NameKind.TheVariants as kinds
use Rattle.log_model.specs.Entry.{Entry, IsEntry}
use Rattle.log_model.specs.Recovered.{entries_of}
use Rattle.found_files.specs.declared.found.FoundStore.{FoundStore}
use Rattle.wal_split.specs.declared.flushed.RegionFlushed.{RegionFlushed}
use Rattle.wal_split.specs.declared.job.EditsJob.{EditsJob}
use Rattle.region_replay.specs.declared.found.RegionFiles.{RegionFiles}

-- the stores of a region, and its edits files among names
abbrev pub stores_of : ℕ → List FoundStore → List FoundStore
stores_of r ss = filter (λ (y : FoundStore). y.name.region == r) ss

abbrev pub cells_of : List FoundStore → List NumberedCell
cells_of ss = flat_map (λ (y : FoundStore). y.text.cells) ss

abbrev pub is_edits : NameKind → Bool
is_edits kinds.Log = false
is_edits kinds.Old = false
is_edits kinds.Store = false
is_edits kinds.Edits = true

abbrev pub edits_of : ℕ → List Name → List Name
edits_of r ns = filter (λ (m : Name). is_edits m.kind && (m.region == r)) ns

-- the name of an edits file that was written, none where it has no entries
abbrev pub written_name : List Entry → Name → List Name
written_name [] name = []
written_name (e ∷ es) name = name ∷ []

-- the name has a low number, and a region from 1 to 64 where it is of a store or an edits file
pub record IsGood (m : Name) : Type 0 where
  pub low : m.number ≤ 2 ^ 62
  pub region : (m.kind ≡ kinds.Store) ⊎ (m.kind ≡ kinds.Edits) → (1 ≤ m.region) × (m.region ≤ 64)

-- the number of a region's next store: 1, or one above that of one of its stores among these names
abbrev pub IsNext : ℕ → List Name → ℕ → Type 0
IsNext r ns n = (n ≡ 1) ⊎ ((m : Name) × Contains ns m × (m.kind ≡ kinds.Store) × (m.region ≡ r) × (n ≡ m.number + 1))

-- A region has the entries of its edits file that was written, and its part of these names, stores and entries.
pub record IsDealt (job : EditsJob) (r : ℕ) (upto : RegionFlushed) (ns : List Name) (ss : List FoundStore) (ks : List Entry) (x : RegionFiles) : Type 0 where
  pub region : x.region ≡ r
  pub stored : x.stored ≡ cells_of (stores_of r ss)
  pub unflushed : x.unflushed.items ≡ job.entries.items ++ entries_of r ks
  pub flushed : x.flushed ≡ upto
  pub edits : x.edits.items ≡ written_name job.entries.items job.name ++ edits_of r ns
  pub above : (m : Name) → Contains ns m → m.kind ≡ kinds.Store → m.region ≡ r → m.number < x.next_store
  pub next : IsNext r ns x.next_store

-- each has the entries of its edits file and nothing else yet
pub record AreBegun (jobs : List EditsJob) (flushed : List RegionFlushed) (xs : List RegionFiles) : Type 0 where
  pub long : length xs ≡ length jobs
  pub each : (k : ℕ) (d : RegionFiles) (j : EditsJob) (u : RegionFlushed) → k < length jobs
      → IsDealt (slice_index_or jobs k j) (slice_index_or jobs k j).name.region (slice_index_or flushed (slice_index_or jobs k j).name.region u) [] [] [] (slice_index_or xs k d)

-- each of the regions 1 to 64 has
pub record AreDealt (jobs : List EditsJob) (flushed : List RegionFlushed) (ns : List Name) (ss : List FoundStore) (ks : List Entry) (xs : List RegionFiles) : Type 0 where
  pub long : length xs ≡ 64
  pub each : (k : ℕ) (d : RegionFiles) (j : EditsJob) (u : RegionFlushed) → k < 64
      → IsDealt (slice_index_or jobs k j) (k + 1) (slice_index_or flushed (k + 1) u) ns ss ks (slice_index_or xs k d)
  pub valid : (e : Entry) → Contains ks e → IsEntry e

-- the region r alone makes a step
abbrev pub Deals : ℕ → (RegionFiles → RegionFiles → Type 0) → List RegionFiles → List RegionFiles → Type 0
Deals r step old new = (x : RegionFiles) × (new ≡ slice_set old (r - 1) x) × ((d : RegionFiles) → step (slice_index_or old (r - 1) d) x)

pub record AddsEdits (name : Name) (old new : RegionFiles) : Type 0 where
  pub region : new.region ≡ old.region
  pub stored : new.stored ≡ old.stored
  pub unflushed : new.unflushed.items ≡ old.unflushed.items
  pub flushed : new.flushed ≡ old.flushed
  pub edits : new.edits.items ≡ old.edits.items ++ name ∷ []
  pub next : new.next_store ≡ old.next_store

pub record RaisesNext (number : ℕ) (old new : RegionFiles) : Type 0 where
  pub region : new.region ≡ old.region
  pub stored : new.stored ≡ old.stored
  pub unflushed : new.unflushed.items ≡ old.unflushed.items
  pub flushed : new.flushed ≡ old.flushed
  pub edits : new.edits.items ≡ old.edits.items
  pub next : new.next_store ≡ max old.next_store (number + 1)

pub record AddsStored (cells : List NumberedCell) (old new : RegionFiles) : Type 0 where
  pub region : new.region ≡ old.region
  pub stored : new.stored ≡ old.stored ++ cells
  pub unflushed : new.unflushed.items ≡ old.unflushed.items
  pub flushed : new.flushed ≡ old.flushed
  pub edits : new.edits.items ≡ old.edits.items
  pub next : new.next_store ≡ old.next_store

pub record AddsEntry (e : Entry) (old new : RegionFiles) : Type 0 where
  pub region : new.region ≡ old.region
  pub stored : new.stored ≡ old.stored
  pub unflushed : new.unflushed.items ≡ old.unflushed.items ++ e ∷ []
  pub flushed : new.flushed ≡ old.flushed
  pub edits : new.edits.items ≡ old.edits.items
  pub next : new.next_store ≡ old.next_store

-- an edits file goes to the names of its region, the number of a store raises its region's next one
pub record DealsName (name : Name) (old new : List RegionFiles) : Type 0 where
  pub store : name.kind ≡ kinds.Store → Deals name.region (RaisesNext name.number) old new
  pub edits : name.kind ≡ kinds.Edits → Deals name.region (AddsEdits name) old new
  pub other : name.kind ≢ kinds.Store → name.kind ≢ kinds.Edits → new ≡ old
