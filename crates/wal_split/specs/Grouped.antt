-- One edits file for each region.
use Rattle.std.specs.Prelude.{◌≡◌, ◌+◌, ◌-◌, ◌<◌, ℕ, List, [], ◌∷◌, ◌++◌, length, Contains, slice_index_or, slice_set}
use Rattle.log_model.specs.declared.name.Name.{Name}
use Rattle.log_model.specs.declared.name.NameKind.TheVariants as kinds
use Rattle.log_model.specs.Entry.{Entry, IsEntry}
use Rattle.log_model.specs.Recovered.{entries_of}
use Rattle.wal_split.specs.declared.job.EditsJob.{EditsJob}

abbrev pub edits_name : ℕ → ℕ → Name
edits_name region number = record { kind = kinds.Edits; region = region; number = number }

-- the edits files of the regions 1 and so on, so many, without entries
pub record AreEmptyJobs (number count : ℕ) (jobs : List EditsJob) : Type 0 where
  pub long : length jobs ≡ count
  pub names : (k : ℕ) (d : EditsJob) → k < count → (slice_index_or jobs k d).name ≡ edits_name (k + 1) number
  pub none : (k : ℕ) (d : EditsJob) → k < count → (slice_index_or jobs k d).entries.items ≡ []

-- the edits files of the regions 1 to 64 with these entries
pub record AreJobsOf (entries : List Entry) (number : ℕ) (jobs : List EditsJob) : Type 0 where
  pub long : length jobs ≡ 64
  pub names : (k : ℕ) (d : EditsJob) → k < 64 → (slice_index_or jobs k d).name ≡ edits_name (k + 1) number
  pub each : (k : ℕ) (d : EditsJob) (e : Entry) → k < 64 → Contains (slice_index_or jobs k d).entries.items e → Contains entries e × (e.region ≡ k + 1) × IsEntry e
  pub are : (k : ℕ) (d : EditsJob) → k < 64 → (slice_index_or jobs k d).entries.items ≡ entries_of (k + 1) entries
  pub all : (e : Entry) → Contains entries e → (k : ℕ) × (k < 64) × ((d : EditsJob) → Contains (slice_index_or jobs k d).entries.items e)

-- an entry goes after the others of its region
abbrev pub AddsTo : Entry → List EditsJob → List EditsJob → Type 0
AddsTo entry old new =
    (job : EditsJob) × (new ≡ slice_set old (entry.region - 1) job)
    × ((d : EditsJob) → (job.name ≡ (slice_index_or old (entry.region - 1) d).name) × (job.entries.items ≡ (slice_index_or old (entry.region - 1) d).entries.items ++ entry ∷ []))
