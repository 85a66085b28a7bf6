-- What each call of a log file that is written does to the disk and its crash images, and to the writer.
use Rattle.std.specs.Prelude.{◌≡◌, ℕ, List, [], ◌++◌, Some, Result, IfOk, OnOk}
use Rattle.log_model.specs.declared.name.Name.{Name}
use Rattle.log_model.specs.Entry.{Entry}
use Rattle.log_model.specs.Files.{content}
use Rattle.disk_images.specs.Crash.{DiskView, Throughout, OnlyAt}
use Rattle.disk_images.specs.OneFile.{Touches, IsDurableFile}
use Rattle.recovery_laws.specs.Change.{HasText, HasEntries}
use Rattle.log_file.specs.LogText.{ended_text}
use Rattle.log_file.specs.Open.{OpenLog, IsOpen, IsStaged, HasEither, HasEnding}

-- the file is open with some entries, and some batch is staged
abbrev pub IsReadyToCommit : OpenLog → DiskView → Type 0
IsReadyToCommit log disk = ∥ ((entries : List Entry) × (batch : List Entry) × IsOpen log disk entries × IsStaged log batch) ∥₁

-- a file of this name is begun
pub record Begins {E : Type 0} (name : Name) (result : Result OpenLog E) (old new : DiskView) : Type 0 where
  -- after Ok every crash leaves the file, without entries
  pub durable : IfOk result (λ log. IsOpen log new [])
  -- a crash during its three disk calls leaves no file, or one without entries
  pub atomic : Throughout (OnlyAt name (HasEntries name []) old) 3 old new
  pub no_other_file : Touches name old new

-- what staging leaves as it is: the file
pub record IsSameFile (log now : OpenLog) : Type 0 where
  pub name : now.name ≡ log.name
  pub gate : now.gate ≡ log.gate
  pub entries : now.entries ≡ log.entries

-- this batch is committed to a file with these entries
pub record Commits {E : Type 0} (entries batch : List Entry) (result : Result ℕ E) (log committed : OpenLog) (old new : DiskView) : Type 0 where
  -- after Ok every crash leaves the entries and the batch
  pub durable : OnOk result (IsOpen committed new (entries ++ batch))
  -- a crash during its four disk calls leaves the entries, or the entries and the whole batch
  pub atomic : Throughout (OnlyAt log.name (HasEither log.name entries (entries ++ batch)) old) 4 old new

-- a file with these entries is ended
pub record Finishes {E : Type 0} (entries : List Entry) (result : Result ℕ E) (log : OpenLog) (old new : DiskView) : Type 0 where
  -- after Ok every crash leaves the entries and an end frame
  pub durable : OnOk result (IsDurableFile new log.name (ended_text log.name.number entries))
  -- the end frame has the count that is answered
  pub counted : IfOk result (λ n. HasText log.name entries (Some n) (content new.files log.name))
  -- a crash during its four disk calls leaves the entries, with the end frame or without it
  pub atomic : Throughout (OnlyAt log.name (HasEnding log.name entries) old) 4 old new
