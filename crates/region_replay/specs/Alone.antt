-- What was read of one region alone.
use Rattle.std.specs.Prelude.{◌≡◌, ◌⊎◌, ℕ, ◌+◌, ◌<◌, ◌≤◌, ◌^◌, List, filter, slice_index_or, Contains}
use Rattle.log_model.specs.declared.name.Name.{Name}
use Rattle.log_model.specs.declared.name.NameKind.TheVariants as kinds
use Rattle.log_model.specs.Entry.{Entry, IsEntry}
use Rattle.log_model.specs.Files.{Files, IsAbsent}
use Rattle.log_model.specs.Recovered.{entries_of}
use Rattle.disk_images.specs.Crash.{DiskView, IsImageNow}
use Rattle.found_files.specs.declared.found.FoundEntry.{FoundEntry}
use Rattle.found_files.specs.declared.found.FoundStore.{FoundStore}
use Rattle.found_files.specs.Counting.{AreCounting}
use Rattle.wal_split.specs.declared.flushed.RegionFlushed.{RegionFlushed}
use Rattle.wal_split.specs.Flushed.{AreFlushed}
use Rattle.wal_split.specs.Unflushed.{AreUnflushedOf}
use Rattle.region_replay.specs.declared.found.RegionFiles.{RegionFiles}
use Rattle.region_replay.specs.Dealt.{cells_of, is_edits}

abbrev pub edits_among : List Name → List Name
edits_among names = filter (λ (m : Name). is_edits m.kind) names

-- the number of the next store, 1 where these names have no store, else one above the greatest
pub record IsNextStore (names : List Name) (n : ℕ) : Type 0 where
  pub above : (m : Name) → Contains names m → m.kind ≡ kinds.Store → m.number < n
  pub one : (n ≡ 1) ⊎ ((m : Name) × Contains names m × (m.kind ≡ kinds.Store) × (n ≡ m.number + 1))
  pub low : n ≤ 2 ^ 63

-- it has the cells of those of these stores that count, the entries of which they don't have each cell, and the names of
-- the edits files
pub record IsRegionOf (r : ℕ) (names : List Name) (es : List FoundEntry) (every : List FoundStore) (x : RegionFiles) : Type 0 where
  pub region : x.region ≡ r
  pub ss : List FoundStore
  pub counting : AreCounting every ss
  pub stored : x.stored ≡ cells_of ss
  pub flushed : List RegionFlushed
  pub are_flushed : AreFlushed ss flushed
  pub upto : (d : RegionFlushed) → x.flushed ≡ slice_index_or flushed r d
  pub logged : List Entry
  pub kept : List Entry
  pub parts : AreUnflushedOf es flushed logged kept
  pub unflushed : x.unflushed.items ≡ entries_of r kept
  pub valid : (e : Entry) → Contains x.unflushed.items e → IsEntry e
  pub edits : x.edits.items ≡ edits_among names
  pub next : IsNextStore names x.next_store

-- no name is gone, and no image has a file that isn't there
pub record IsPinned (disk : DiskView) : Type 0 where
  pub none_gone : (m : Name) → ¬ disk.gone m
  pub absent : (J : Files) (m : Name) → IsImageNow disk J → IsAbsent disk.files m → IsAbsent J m
