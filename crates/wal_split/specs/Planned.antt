-- What a split will write and rename.
use Rattle.std.specs.Prelude.{◌≡◌, ◌≢◌, ◌⊎◌, ◌+◌, ◌<◌, ◌≤◌, ◌^◌, ℕ, List, length, Contains}
use Rattle.log_model.specs.declared.name.Name.{Name}
use Rattle.log_model.specs.declared.name.NameKind.TheVariants as kinds
use Rattle.log_model.specs.Entry.{Entry}
use Rattle.found_files.specs.declared.found.FoundEntry.{FoundEntry}
use Rattle.found_files.specs.declared.found.FoundStore.{FoundStore}
use Rattle.wal_split.specs.declared.planning.Plan.{Plan}
use Rattle.wal_split.specs.Flushed.{AreFlushed}
use Rattle.wal_split.specs.Unflushed.{AreUnflushedOf}
use Rattle.wal_split.specs.Grouped.{AreJobsOf}
use Rattle.wal_split.specs.Numbers.{logs_of}

-- The edits files have the entries of logs that are not flushed, under one number above those of all logs and edits files.
pub record IsPlan (names : List Name) (xs : List FoundEntry) (stores : List FoundStore) (plan : Plan) : Type 0 where
  pub are_flushed : AreFlushed stores plan.flushed.items
  pub logged : List Entry
  pub parts : AreUnflushedOf xs plan.flushed.items logged plan.kept.items
  pub number : ℕ
  pub above : (m : Name) → Contains names m → m.kind ≢ kinds.Store → m.number < number
  pub low : number ≤ 2 ^ 62 + 1
  pub next : (number ≡ 1) ⊎ ((m : Name) × Contains names m × (m.kind ≢ kinds.Store) × (number ≡ m.number + 1))
  pub jobs : AreJobsOf logged number plan.jobs.items
  pub logs : plan.logs.items ≡ logs_of names
  pub count : plan.entries ≡ length logged
