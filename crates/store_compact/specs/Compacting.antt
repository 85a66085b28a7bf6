-- What a compaction of a region leaves.
use Rattle.std.specs.Prelude.{◌≡◌, ◌≢◌, ◌⊎◌, ◌↔◌, ℕ, ◌<◌, ◌≤◌, List, length, Contains, AllPairs}
use Rattle.std.specs.declared.cmp.Ordering.TheVariants.{Less}
use Rattle.cell_model.specs.Order.{VersionKey, Payload, payload_of, NumberedCell, version_of}
use Rattle.cell_model.specs.Merge.{IsRising}
use Rattle.mask_model.specs.Masked.{shown}
use Rattle.log_model.specs.declared.name.Name.{Name}
use Rattle.log_model.specs.declared.name.NameKind.TheVariants as names
use Rattle.log_model.specs.StoreText.{Store}
use Rattle.log_model.specs.Files.{Files, name_cmp, content, IsPresent, IsStoreFile, IsFit}
use Rattle.log_model.specs.Recovered.{IsCounting, IsStored, IsLast, RecoversAlike}
use Rattle.recovery_laws.specs.Alike.{AllAlike}
use Rattle.recovery_laws.specs.Kept.{HasNoLogs}
use Rattle.region_replay.specs.Stored.{IsNextNumber}
use Rattle.store_compact.specs.declared.kind.CompactKind.{CompactKind}
use Rattle.store_compact.specs.declared.kind.CompactKind.TheVariants as compacts
use Rattle.store_compact.specs.declared.kind.Compacted.{Compacted}

-- what is kept of a region's cells in order: all of them, or what is shown of them
abbrev pub kept_by : CompactKind → List NumberedCell → List NumberedCell
kept_by compacts.Minor cells = cells
kept_by compacts.Major cells = shown cells

-- the fewest counting store files that there is anything to do for
abbrev pub least_files : CompactKind → ℕ
least_files compacts.Minor = 2
least_files compacts.Major = 1

-- these cells, in order, are what the region's counting store files hold: of those that hold one version, the last one
pub record AreStoredCells (files : Files) (r : ℕ) (cells : List NumberedCell) : Type 0 where
  pub rising : IsRising cells
  pub same : (v : VersionKey) (p : Payload) → IsStored files r v p ↔ ((x : NumberedCell) × Contains cells x × (version_of x ≡ v) × (payload_of x.1 ≡ p))

-- The files are fit. Of the region, what is kept of the cells that were stored is stored, up to the same last sequence id;
-- the other regions recover alike, and there is no log and no edits file.
pub record IsCompacted (found : Files) (r : ℕ) (kind : CompactKind) (files : Files) : Type 0 where
  pub fit : IsFit files
  pub no_logs : HasNoLogs files
  pub cells : List NumberedCell
  pub before : AreStoredCells found r cells
  pub after : AreStoredCells files r (kept_by kind cells)
  pub last : (n : ℕ) → IsLast found r n ↔ IsLast files r n
  pub others : (q : ℕ) → q ≢ r → RecoversAlike found files q

-- the region is compacted, or all is as it was found
abbrev pub WasOrCompacted : Files → ℕ → CompactKind → Files → Type 0
WasOrCompacted found r kind files = (HasNoLogs files × AllAlike found files) ⊎ IsCompacted found r kind files

-- What is stored of the region is what was found, up to the same last number, and each store file of another region is as it
-- was found, whether it is whole or not.
pub record IsAsFound (found : Files) (r : ℕ) (files : Files) : Type 0 where
  pub stored : (v : VersionKey) (p : Payload) → IsStored found r v p ↔ IsStored files r v p
  pub last : (n : ℕ) → IsLast found r n ↔ IsLast files r n
  pub others : (m : Name) → m.kind ≡ names.Store → m.region ≢ r → content files m ≡ content found m

-- The same, but what is kept of the cells that were stored of the region is stored.
pub record IsCompactedIn (found : Files) (r : ℕ) (kind : CompactKind) (files : Files) : Type 0 where
  pub cells : List NumberedCell
  pub before : AreStoredCells found r cells
  pub after : AreStoredCells files r (kept_by kind cells)
  pub last : (n : ℕ) → IsLast found r n ↔ IsLast files r n
  pub others : (m : Name) → m.kind ≡ names.Store → m.region ≢ r → content files m ≡ content found m

-- the region is compacted, or as it was found
abbrev pub WasOrCompactedIn : Files → ℕ → CompactKind → Files → Type 0
WasOrCompactedIn found r kind files = IsAsFound found r files ⊎ IsCompactedIn found r kind files

-- the region's one store file: of the scope 1, with the next number of those that were found, one above the greatest, and it
-- covers what those covered that counted
pub record HasOneStore (found : Files) (r : ℕ) (files : Files) : Type 0 where
  pub name : Name
  pub store : Store
  pub file : IsStoreFile files r name store
  pub scope : store.scope ≡ 1
  pub number : IsNextNumber found r name.number
  pub from : ((m : Name) (t : Store) → IsCounting found r m t → store.from ≤ t.from) × ((m : Name) × (t : Store) × IsCounting found r m t × (t.from ≡ store.from))
  pub to : ((m : Name) (t : Store) → IsCounting found r m t → t.to ≤ store.to) × ((m : Name) × (t : Store) × IsCounting found r m t × (t.to ≡ store.to))
  pub only : (m : Name) → m.kind ≡ names.Store → m.region ≡ r → IsPresent files m → m ≡ name

-- so many cells were stored of the region, and so many are kept
pub record AreCounts (found : Files) (r : ℕ) (kind : CompactKind) (counts : Compacted) : Type 0 where
  pub cells : List NumberedCell
  pub stored : AreStoredCells found r cells
  pub before : counts.before ≡ length cells
  pub after : counts.after ≡ length (kept_by kind cells)

-- so many store files of the region count
pub record HasCounting (found : Files) (r n : ℕ) : Type 0 where
  pub files : List Name
  pub count : length files ≡ n
  pub rise : AllPairs (λ a b. name_cmp a b ≡ Less) files
  pub each : (m : Name) → Contains files m → (s : Store) × IsCounting found r m s
  pub all : (m : Name) (s : Store) → IsCounting found r m s → Contains files m

-- a file that is no store of the region
abbrev pub IsOtherFile : ℕ → Name → Type 0
IsOtherFile r m = m.kind ≡ names.Store → m.region ≢ r
