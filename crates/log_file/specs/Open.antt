-- A log file that is written.
use Rattle.std.specs.Prelude.{◌≡◌, ◌⊎◌, ◌≤◌, ◌<◌, ◌^◌, ℕ, List, [], length, Option, Some, None}
use Rattle.std.specs.List.{AllByRecursion}
use Rattle.disk_images.specs.Crash.{DiskView}
use Rattle.disk_images.specs.OneFile.{IsDurableFile}
use Rattle.log_model.specs.declared.name.Name.{Name}
use Rattle.log_model.specs.Entry.{Entry}
use Rattle.log_model.specs.LogText.{IsEntryOf, in_version}
use Rattle.log_model.specs.Files.{key_of}
use Rattle.recovery_laws.specs.Change.{HasText}
use Rattle.log_file.specs.LogText.{front, behind_gate, at_rest}

-- its name, the place of its next gate, the number of its entries, and what is staged after that gate: the bytes, and
-- how many entries they are
pub record OpenLog : Type 0 where
  pub name : Name
  pub gate : ℕ
  pub entries : ℕ
  pub bytes : List ℕ
  pub staged : ℕ

-- what holds of every log file that is written
pub record IsBounded (log : OpenLog) : Type 0 where
  pub small : log.gate < 2 ^ 63
  pub counted : log.entries ≤ log.gate
  pub fewer : log.staged ≤ length log.bytes
  pub none : log.staged ≡ 0 → log.bytes ≡ []

-- entries that may stand in the file of this name
abbrev pub AreEntriesOf : Name → List Entry → Type 0
AreEntriesOf name entries = AllByRecursion (IsEntryOf (in_version 2 (key_of name))) entries

-- the file has these entries and a closed gate, and every crash leaves it so
pub record IsOpen (log : OpenLog) (disk : DiskView) (entries : List Entry) : Type 0 where
  pub each : AreEntriesOf log.name entries
  pub file : IsDurableFile disk log.name (at_rest log.name.number entries)
  pub gate : log.gate ≡ length (front log.name.number entries)
  pub count : log.entries ≡ length entries

-- these entries are staged
pub record IsStaged (log : OpenLog) (batch : List Entry) : Type 0 where
  pub each : AreEntriesOf log.name batch
  pub bytes : log.bytes ≡ behind_gate batch
  pub count : log.staged ≡ length batch

-- in an image the file has these entries, or those, and no end frame
abbrev pub HasEither : Name → List Entry → List Entry → Option (List ℕ) → Type 0
HasEither name before after image = HasText name before None image ⊎ HasText name after None image

-- in an image the file has these entries, with an end frame that counts them or without one
abbrev pub HasEnding : Name → List Entry → Option (List ℕ) → Type 0
HasEnding name entries image = HasText name entries None image ⊎ HasText name entries (Some (length entries)) image
