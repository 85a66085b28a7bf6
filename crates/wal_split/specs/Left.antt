-- What a split hands on, and what it leaves.
use Rattle.std.specs.Prelude.{◌≡◌, ◌≢◌, ◌⊎◌, ◌+◌, ◌<◌, ◌≤◌, ◌^◌, ℕ, List, [], length, Contains, AllPairs, None, slice_index_or}
use Rattle.std.specs.declared.cmp.Ordering.TheVariants.{Less}
use Rattle.log_model.specs.declared.name.Name.{Name}
use Rattle.log_model.specs.declared.name.NameKind.TheVariants as kinds
use Rattle.log_model.specs.Entry.{Entry, IsEntry}
use Rattle.log_model.specs.StoreText.{Store, IsStore}
use Rattle.log_model.specs.Files.{Files, content, name_cmp, IsAbsent, IsPresent, IsLogFile, IsLogged}
use Rattle.log_model.specs.Recovered.{IsCounting}
use Rattle.recovery_laws.specs.Change.{HasText}
use Rattle.found_files.specs.declared.found.FoundStore.{FoundStore}
use Rattle.found_files.specs.Found.{store_of, AreInNameOrder}
use Rattle.found_files.specs.Names.{IsBadAmong}
use Rattle.wal_split.specs.declared.job.EditsJob.{EditsJob}
use Rattle.wal_split.specs.declared.split_files.SplitFiles.{SplitFiles}
use Rattle.wal_split.specs.Flushed.{AreFlushed}
use Rattle.wal_split.specs.Grouped.{edits_name}
use Rattle.wal_split.specs.Unflushed.{IsAbove, IsBefore, IsUnflushedEntry}

-- the edits file of the region k + 1
abbrev pub job_at : SplitFiles → ℕ → EditsJob → EditsJob
job_at x k d = slice_index_or x.plan.jobs.items k d

-- What holds of it on any disk: 64 edits files, each with unflushed entries of its region, under one number above those of
-- all logs and edits files; names in their ranges; the stores that count, and up to where each region is flushed by them.
pub record IsInRange (x : SplitFiles) : Type 0 where
  pub number : ℕ
  pub low : number ≤ 2 ^ 62 + 1
  pub above : (m : Name) → Contains x.names m → m.kind ≢ kinds.Store → m.number < number
  pub long : length x.plan.jobs.items ≡ 64
  pub named : (k : ℕ) (d : EditsJob) → k < 64 → (job_at x k d).name ≡ edits_name (k + 1) number
  pub pending : (k : ℕ) (d : EditsJob) (e : Entry) → k < 64 → Contains (job_at x k d).entries.items e
      → (e.region ≡ k + 1) × IsEntry e × IsAbove x.plan.flushed.items e
  pub kept : (e : Entry) → Contains x.plan.kept.items e → IsAbove x.plan.flushed.items e
  pub flushed : AreFlushed x.stores.items x.plan.flushed.items
  pub stores : (y : FoundStore) → Contains x.stores.items y → IsStore (store_of y) × Contains x.names y.name × (y.name.kind ≡ kinds.Store)
  pub good : (m : Name) → Contains x.names m → ¬ IsBadAmong x.names m

-- What stands in the files: of stores that count these, and in edits files exactly these entries beside such as are flushed.
-- There is no log, and each edits file is one of before, or one of those with entries.
pub record AreLeft (files : Files) (x : SplitFiles) : Type 0 where
  pub stores : (y : FoundStore) → Contains x.stores.items y → IsCounting files y.name.region y.name (store_of y)
  pub all_stores : (m : Name) (s : Store) → IsCounting files m.region m s → (y : FoundStore) × Contains x.stores.items y × (y.name ≡ m) × (s ≡ store_of y)
  pub rising : AreInNameOrder x.stores.items
  pub store_names : (m : Name) → m.kind ≡ kinds.Store → IsPresent files m → Contains x.names m
  pub stores_stay : (m : Name) → m.kind ≡ kinds.Store → Contains x.names m → IsPresent files m
  pub names_rise : AllPairs (λ a b. name_cmp a b ≡ Less) x.names
  pub written : (k : ℕ) (d : EditsJob) (e : Entry) → k < 64 → Contains (job_at x k d).entries.items e
      → HasText (job_at x k d).name (job_at x k d).entries.items None (content files (job_at x k d).name)
  pub jobs_rise : (k : ℕ) (d : EditsJob) → k < 64 → AllPairs (λ a b. a.number < b.number) (job_at x k d).entries.items
  pub kept : (e : Entry) → Contains x.plan.kept.items e → (m : Name) × (l : List Entry) × (m.kind ≡ kinds.Edits) × IsLogFile files m l × Contains l e
  pub kept_rise : AllPairs IsBefore x.plan.kept.items
  pub apart : (k : ℕ) (d : EditsJob) (a b : Entry) → k < 64 → Contains (job_at x k d).entries.items a → Contains x.plan.kept.items b
      → a.region ≡ b.region → a.number ≢ b.number
  pub no_logs : (m : Name) → m.kind ≡ kinds.Log → IsAbsent files m
  pub edits : (m : Name) → Contains x.names m → m.kind ≡ kinds.Edits → (l : List Entry) × IsLogFile files m l
  pub all_edits : (m : Name) → m.kind ≡ kinds.Edits → IsPresent files m
      → Contains x.names m ⊎ ((k : ℕ) × (k < 64) × ((d : EditsJob) → (m ≡ (job_at x k d).name) × ((job_at x k d).entries.items ≢ [])))
  pub all : (e : Entry) → IsLogged files e → IsUnflushedEntry files e
      → ((k : ℕ) × (k < 64) × ((d : EditsJob) → Contains (job_at x k d).entries.items e)) ⊎ Contains x.plan.kept.items e
  pub small : (m : Name) → IsPresent files m → m.number ≤ 2 ^ 63

-- no name has a number above one more than the greatest of these files
abbrev pub AtMostOneHigher : Files → Files → Type 0
AtMostOneHigher old new = (n : ℕ) → ((m : Name) → IsPresent old m → m.number ≤ n) → (m : Name) → IsPresent new m → m.number ≤ n + 1
