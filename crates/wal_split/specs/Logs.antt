-- Logs that are renamed.
use Rattle.std.specs.Prelude.{◌≡◌, ◌<◌, ℕ, List, Contains, Option, length, take, get_or}
use Rattle.log_model.specs.declared.name.Name.{Name}
use Rattle.log_model.specs.declared.name.NameKind.TheVariants as kinds
use Rattle.log_model.specs.Entry.{Entry}
use Rattle.log_model.specs.Files.{Files, content, Reads, IsAbsent, IsPresent}
use Rattle.recovery_laws.specs.Change.{HasText}
use Rattle.disk_images.specs.Crash.{DiskView}
use Rattle.recovery_laws.specs.OpeningSteps.{AreKept}

abbrev pub log_name : ℕ → Name
log_name number = record { kind = kinds.Log; region = 0; number = number }

abbrev pub old_name : ℕ → Name
old_name number = record { kind = kinds.Old; region = 0; number = number }

-- each is there, and its old name is free
pub record AreFree (disk : DiskView) (logs : List ℕ) : Type 0 where
  pub there : (n : ℕ) → Contains logs n → (c : List ℕ) × Reads disk.files (log_name n) c
  pub old : (n : ℕ) → Contains logs n → IsAbsent disk.files (old_name n) × (¬ disk.gone (old_name n))

-- each number is above those before it
abbrev pub AreRising : List ℕ → Type 0
AreRising logs = (i n : ℕ) → i < length logs → Contains (take i logs) n → n < get_or logs i 0

-- the entries of each are flushed, or stand in edits files
abbrev pub LogsKept : Files → List ℕ → Type 0
LogsKept files logs = (n : ℕ) → Contains logs n → (es : List Entry) × (ended : Option ℕ) × HasText (log_name n) es ended (content files (log_name n)) × AreKept files es

-- a name of none of these logs, old or not
abbrev pub IsOther : List ℕ → Name → Type 0
IsOther logs m = (n : ℕ) → Contains logs n → (m ≡ log_name n → ⊥) × (m ≡ old_name n → ⊥)

-- each log is an old log now, with the bytes that it had, and each old log of before stays as it was
pub record LogsAreOld (old new : Files) : Type 0 where
  pub moved : (n : ℕ) → IsPresent old (log_name n) → content new (old_name n) ≡ content old (log_name n)
  pub stay : (m : Name) → m.kind ≡ kinds.Old → IsPresent old m → content new m ≡ content old m
