-- A device and what it has made of its files.
use Rattle.std.specs.Prelude.{◌≡◌, ◌↔◌, ◌+◌, ◌≤◌, ℕ, List, [], length, get_or, Option, Some, None, IsTrue}
use Rattle.log_model.specs.Entry.{Entry}
use Rattle.log_model.specs.Files.{Files}
use Rattle.disk_images.specs.declared.disk.Disk.{Ghosts}
use Rattle.disk_images.specs.Crash.{DiskView, Elapses, Throughout}
use Rattle.disk_images.specs.Calls.{HasCause}
use Rattle.recovery_laws.specs.Kept.{lasts}
use Rattle.log_file.specs.Open.{OpenLog}
use Rattle.log_ledger.specs.History.{History}
use Rattle.log_ledger.specs.Numbers.{Numbers}
use Rattle.log_ledger.specs.Counted.{IsCounted}
use Rattle.log_device.specs.declared.device.Device.{Device}
use Rattle.log_device.specs.Keeps.{Keeps, log_name}
use Rattle.log_device.specs.Leaves.{Leaves}

-- its disk, its current log file, which it has until a disk call fails, and its numbers
abbrev pub disk_of : {D : Type 0} → Device D → D
disk_of d = d.disk

abbrev pub log_of : {D : Type 0} → Device D → Option OpenLog
log_of d = d.log

abbrev pub numbers_of : {D : Type 0} → Device D → Numbers
numbers_of d = d.ledger.value

abbrev pub IsBroken : {D : Type 0} → Device D → Type 0
IsBroken d = log_of d ≡ None

-- the device isn't broken, and its disk and its numbers are as this history made them
pub record IsWhole {D : Type 0} (d : Device D) (disk : DiskView) (h : History) : Type 0 where
  pub file : OpenLog
  pub is : log_of d ≡ Some file
  pub keeps : Keeps file disk h (numbers_of d).next_store
  pub counted : IsCounted (numbers_of d) h
  -- what is told of a region is committed
  pub told : (r : ℕ) → get_or (numbers_of d).stored r 0 ≤ lasts h.kept.first h.kept.durable r

-- what its disk tells
abbrev pub view_of : {D : Type 0} → Ghosts D → Device D → DiskView
view_of g d = g.view (disk_of d)

-- its files as they read
abbrev pub files_of : {D : Type 0} → Ghosts D → Device D → Files
files_of g d = (view_of g d).files

-- it isn't broken, and its disk as it is told and its numbers are as this history made them
abbrev pub HasHistory : {D : Type 0} → Ghosts D → Device D → History → Type 0
HasHistory g d h = IsWhole d (view_of g d) h

-- at each moment of a call of at most so many disk calls each image has P
abbrev pub EachImage : {D : Type 0} → Ghosts D → (Files → Type 0) → ℕ → Device D → Device D → Type 0
EachImage g P calls old new = Throughout P calls (view_of g old) (view_of g new)

-- what a crash may leave in a call before which the device was this one, and so many entries were staged
abbrev pub LeavesAt : {D : Type 0} → Ghosts D → Device D → List Entry → Files → Type 0
LeavesAt g old staged J = Leaves (numbers_of old).stored (numbers_of old).closed (view_of g old).files staged J

-- no disk call was made but those of a commit: four at most, and none where nothing was staged
pub record OnlyCommits {D : Type 0} (g : Ghosts D) (old new : Device D) : Type 0 where
  pub calls : IsTrue g.told → (h : History) → HasHistory g old h → Elapses 4 (view_of g old) (view_of g new)
  pub idle : (file : OpenLog) → log_of old ≡ Some file → file.staged ≡ 0 → disk_of new ≡ disk_of old

-- its disk's count of faults has risen where the call failed so, and never falls
abbrev pub CausesFault : {D : Type 0} → Ghosts D → Device D → Device D → Type 0 → Type 0
CausesFault g old new failed = HasCause (g.faults (disk_of old)) (g.faults (disk_of new)) failed

-- it broke the device exactly where it failed so, and a broken device stays as it was
pub record Breaks {D : Type 0} (g : Ghosts D) (failed : Type 0) (old new : Device D) : Type 0 where
  pub stays : IsBroken old → new ≡ old
  pub broken : failed ↔ IsBroken new
  pub cause : CausesFault g old new ((IsBroken old → ⊥) × failed)

-- all that was staged into the file is committed
abbrev pub IsCommitted : OpenLog → Option OpenLog → Type 0
IsCommitted file log = (now : OpenLog) × (log ≡ Some now) × (now.name ≡ file.name) × (now.entries ≡ file.entries + file.staged) × (now.staged ≡ 0)

-- nothing is staged into the file
abbrev pub IsIdle : Option OpenLog → Type 0
IsIdle log = (file : OpenLog) → log ≡ Some file → (file.staged ≡ 0) × (file.bytes ≡ [])

-- the device isn't broken, and all that was staged is committed
pub record IsAtRest {D : Type 0} (g : Ghosts D) (d : Device D) : Type 0 where
  pub whole : IsTrue g.told → ∥ ((h : History) × HasHistory g d h × (h.kept.staged ≡ [])) ∥₁
  pub unbroken : IsBroken d → ⊥
  pub idle : IsIdle (log_of d)
  pub synced : (numbers_of d).synced ≡ (numbers_of d).drawn
  pub closed : (r : ℕ) → get_or (numbers_of d).closed r 0 ≤ get_or (numbers_of d).synced r 0

-- one more entry of so many bytes is staged into the file
pub record HasStaged (file : OpenLog) (len : ℕ) (log : Option OpenLog) : Type 0 where
  pub now : OpenLog
  pub is : log ≡ Some now
  pub name : now.name ≡ file.name
  pub entries : now.entries ≡ file.entries
  pub staged : now.staged ≡ file.staged + 1
  pub bytes : length now.bytes ≡ length file.bytes + len + 1

-- none of the numbers that are told has fallen
pub record NoneFell (old new : Numbers) : Type 0 where
  pub synced : (r : ℕ) → get_or old.synced r 0 ≤ get_or new.synced r 0
  pub stored : (r : ℕ) → get_or old.stored r 0 ≤ get_or new.stored r 0
  pub closed : (r : ℕ) → get_or old.closed r 0 ≤ get_or new.closed r 0

-- the file with the next number was begun, and has no entry
pub record IsBegunAfter (file : OpenLog) (log : Option OpenLog) : Type 0 where
  pub now : OpenLog
  pub is : log ≡ Some now
  pub name : now.name ≡ log_name (file.name.number + 1)
  pub entries : now.entries ≡ 0
  pub staged : now.staged ≡ 0
