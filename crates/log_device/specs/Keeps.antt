-- A log with what was made of it, on its disk.
use Rattle.std.specs.Prelude.{◌≡◌, ◌≢◌, ◌⊎◌, ◌<◌, ◌≤◌, ◌+◌, ◌++◌, ℕ, List, Contains, get_or, length, min, Option, Some}
use Rattle.log_model.specs.declared.name.Name.{Name}
use Rattle.log_model.specs.declared.name.NameKind.TheVariants as kinds
use Rattle.log_model.specs.Entry.{Entry}
use Rattle.log_model.specs.Files.{Files, content, IsPresent}
use Rattle.disk_images.specs.Crash.{DiskView, IsImageNow, Throughout}
use Rattle.chronicle_model.specs.Growth.{LogsStay}
use Rattle.disk_images.specs.OneFile.{IsDurableFile}
use Rattle.recovery_laws.specs.Change.{HasText}
use Rattle.recovery_laws.specs.Kept.{Kept, IsLike, IsOrderly}
use Rattle.log_file.specs.LogText.{ended_text}
use Rattle.log_file.specs.Open.{OpenLog, AreEntriesOf, IsOpen, IsStaged}
use Rattle.log_ledger.specs.History.{ClosedLog, History}
use Rattle.log_device.specs.Bears.{Bears, IsLogsUpTo}

abbrev pub log_name : ℕ → Name
log_name number = record { kind = kinds.Log; region = 0; number = number }

abbrev pub old_name : ℕ → Name
old_name number = record { kind = kinds.Old; region = 0; number = number }

abbrev pub store_name : ℕ → ℕ → Name
store_name region number = record { kind = kinds.Store; region = region; number = number }

-- no log has a number above this one
abbrev pub IsUpTo : ℕ → Files → Type 0
IsUpTo n J = (m : Name) → m.kind ≡ kinds.Log → IsPresent J m → (m.region ≡ 0) × (m.number ≤ n)

-- files that are like what is kept, and whose last log is the current one, with these entries
pub record Shows (k : Kept) (log : Name) (current : List Entry) (J : Files) : Type 0 where
  pub like : IsLike k J
  pub ended : Option ℕ
  pub text : HasText log current ended (content J log)
  pub up_to : IsUpTo log.number J

-- files like those before a step, or like those after it
abbrev pub Between : Kept → Name → List Entry → Kept → Name → List Entry → Files → Type 0
Between k log current k_after log_after current_after J = Shows k log current J ⊎ Shows k_after log_after current_after J

-- a log with an end frame and these entries, in every image
pub record IsClosedLog (disk : DiskView) (number : ℕ) (entries : List Entry) : Type 0 where
  pub each : AreEntriesOf (log_name number) entries
  pub file : IsDurableFile disk (log_name number) (ended_text number entries)

pub record Keeps (log : OpenLog) (disk : DiskView) (h : History) (next_store : List ℕ) : Type 0 where
  pub kind : log.name.kind ≡ kinds.Log
  pub region : log.name.region ≡ 0
  -- the current file stands open
  pub open_log : IsOpen log disk h.current
  pub staged : IsStaged log h.kept.staged
  pub orderly : IsOrderly h.kept
  -- each image now holds what is kept
  pub images : (J : Files) → IsImageNow disk J → Shows h.kept log.name h.current J
  -- and its files bear names that the device gives
  pub names : (J : Files) → IsImageNow disk J → Bears h.kept.base next_store log.name.number J
  pub served : (r : ℕ) → 0 < get_or next_store r 0 → (1 ≤ r) × (r ≤ 64)
  -- Each file before the current one has an entry, so its number is bounded by those found and by the entries.
  pub few : (n : ℕ) → IsLogsUpTo n h.kept.base → log.name.number + min 1 (log.entries + log.staged) ≤ n + 1 + length (h.kept.durable ++ h.kept.staged)
  -- every other log is one of the closed ones, and has a lower number
  pub logs : (c : ClosedLog) → Contains h.logs c → IsClosedLog disk c.number c.entries × (c.number < log.name.number)
  pub one : (c d : ClosedLog) → Contains h.logs c → Contains h.logs d → c.number ≡ d.number → c ≡ d
  pub there : (m : Name) → m.kind ≡ kinds.Log → IsPresent disk.files m → (m ≡ log.name) ⊎ ((c : ClosedLog) × Contains h.logs c × (log_name c.number ≡ m))
  -- only logs were renamed away
  pub gone : (m : Name) → disk.gone m → (m.kind ≡ kinds.Log) × (m.region ≡ 0) × (m.number < log.name.number)
  pub olds : (m : Name) → m.kind ≡ kinds.Old → IsPresent disk.files m → (m.number < log.name.number) × ((c : ClosedLog) → Contains h.logs c → c.number ≢ m.number)
  -- the next store's name is free
  pub stores : (m : Name) → m.kind ≡ kinds.Store → IsPresent disk.files m → 0 < get_or next_store m.region 0 → m.number < get_or next_store m.region 0
  -- and above all that were found
  pub found : (m : Name) → m.kind ≡ kinds.Store → IsPresent h.kept.base m → 0 < get_or next_store m.region 0 → m.number < get_or next_store m.region 0

-- where the next file has a byte, the old one has all its entries
abbrev pub IsInOrder : Name → Name → List Entry → Files → Type 0
IsInOrder old next entries J = (bytes : List ℕ) → content J next ≡ Some bytes → 0 < length bytes → (ended : Option ℕ) × HasText old entries ended (content J old)

-- what a call of at most so many disk calls, which renames closed logs that are wholly flushed, leaves of a disk
pub record Renames (log : OpenLog) (k : Kept) (current : List Entry) (next_store : List ℕ) (calls : ℕ) (old new : DiskView) : Type 0 where
  -- at each moment each image is like what is kept
  pub any_moment : Throughout (Shows k log.name current) calls old new
  -- and its files bear names that the device gives
  pub names : Throughout (Bears k.base next_store log.name.number) calls old new
  -- each log reads as it did, under its old name or under the other one
  pub logs : LogsStay old.files new.files
