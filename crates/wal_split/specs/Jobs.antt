-- Edits files that are to be written.
use Rattle.std.specs.Prelude.{◌≡◌, ◌≢◌, ◌<◌, ℕ, List, [], Contains, length, take, get_or}
use Rattle.log_model.specs.declared.name.Name.{Name}
use Rattle.log_model.specs.declared.name.NameKind.TheVariants as kinds
use Rattle.log_model.specs.Entry.{Entry}
use Rattle.log_model.specs.Files.{Files, IsAbsent, IsLogged}
use Rattle.disk_images.specs.Crash.{DiskView}
use Rattle.log_file.specs.Open.{AreEntriesOf}
use Rattle.wal_split.specs.declared.job.EditsJob.{EditsJob}

-- the names are of edits files, no two the same, and the entries may stand there
pub record AreJobs (jobs : List EditsJob) : Type 0 where
  pub kind : (j : EditsJob) → Contains jobs j → j.name.kind ≡ kinds.Edits
  pub each : (j : EditsJob) → Contains jobs j → AreEntriesOf j.name j.entries.items
  pub apart : (i : ℕ) (x j : EditsJob) → i < length jobs → Contains (take i jobs) j → (get_or jobs i x).name ≢ j.name

-- each name is free
abbrev pub AreFreeNames : DiskView → List EditsJob → Type 0
AreFreeNames disk jobs = (j : EditsJob) → Contains jobs j → IsAbsent disk.files j.name × (¬ disk.gone j.name)

-- each entry is logged
abbrev pub AllLogged : Files → List EditsJob → Type 0
AllLogged files jobs = (j : EditsJob) (e : Entry) → Contains jobs j → Contains j.entries.items e → IsLogged files e

-- the name is of no edits file that is written: of none that has entries
abbrev pub IsNoJob : List EditsJob → Name → Type 0
IsNoJob jobs m = (j : EditsJob) → Contains jobs j → j.entries.items ≢ [] → m ≢ j.name
