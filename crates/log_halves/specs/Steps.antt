-- What a roll and a flush did, by the device's half just before it and after it, which have popped the same chains.
use Rattle.std.specs.Prelude.{◌≡◌, ℕ, ◌+◌, List, get_or, Option, Some, IsTrue, IfOk}
use Rattle.std.specs.declared.result.Result.{Result}
use Rattle.std.specs.declared.result.Result.TheVariants.{Ok, Err}
use Rattle.crossbeam_queue.specs.Passes.{view}
use Rattle.recovery_laws.specs.Kept.{Kept, committed, flushed_to}
use Rattle.disk_images.specs.declared.disk.Disk.{Ghosts as Disks}
use Rattle.log_file.specs.Open.{OpenLog}
use Rattle.log_ledger.specs.History.{History, committed_in, family_in}
use Rattle.log_ledger.specs.Counted.{HasUnflushed}
use Rattle.log_device.specs.declared.device.Device.{Device}
use Rattle.log_device.specs.declared.error.Rolled.{Rolled}
use Rattle.log_device.specs.declared.error.RollRefusal.{RollRefusal}
use Rattle.log_device.specs.declared.error.RollRefusal.TheVariants as rolls
use Rattle.log_device.specs.declared.error.DeviceFlush.{DeviceFlush}
use Rattle.log_device.specs.declared.error.DeviceFlush.TheVariants as flushes
use Rattle.log_device.specs.Flushed.{NoneKept}
use Rattle.log_device.specs.Whole.{IsBroken, HasHistory, log_of, numbers_of}
use Rattle.log_halves.specs.declared.name.ServiceNaming.{Ghosts}
use Rattle.log_halves.specs.declared.committer.DeviceHalf.{DeviceHalf}
use Rattle.log_halves.specs.Ends.{HasRolled, HasNoEntry}

-- ---- rolls

-- What a roll answers, of the file that the half had.
pub record RollsFile {D N : Type 0} (d : Disks D) (g : Ghosts N) (result : Result Rolled RollRefusal) (new : DeviceHalf D N d g) : Type 0 where
  pub before : DeviceHalf D N d g
  pub popped : view before.consumer.pass ≡ view new.consumer.pass
  pub file : OpenLog
  pub is : log_of before.device ≡ Some file
  -- `Rolled` is this file, which was closed, with its entries, and the next one was begun
  pub rolled : IfOk result (λ rolled. HasRolled file rolled (log_of new.device))
  -- `NothingToRoll` comes exactly where it has no entry
  pub none : (n : ℕ) → result ≡ Err (rolls.NothingToRoll n) → HasNoEntry file n
  pub empty : file.entries + file.staged ≡ 0 → result ≡ Err (rolls.NothingToRoll file.name.number)

-- ---- flushes of a family of region r, or of all

-- how many store files it has written
abbrev pub stores_in : Result ℕ DeviceFlush → ℕ
stores_in (Ok n) = 1
stores_in (Err why) = 0

-- Some cells of the family weren't flushed, and all of them are up to n since. Nothing else changed.
pub record FlushesCells (r : ℕ) (family : Option (List ℕ)) (n : ℕ) (old new : Kept) : Type 0 where
  pub some : HasUnflushed old r family
  pub flushed : new ≡ flushed_to old r (family_in family) n

-- the same of what a device on a told disk keeps
abbrev pub Flushed : {D : Type 0} → Disks D → ℕ → Option (List ℕ) → Device D → Device D → ℕ → Type 0
Flushed d r family old new n = ∥ ((h : History) × (k : History) × HasHistory d old h × HasHistory d new k × FlushesCells r family n (committed h.kept) k.kept) ∥₁

-- it kept no cell of the family that wasn't flushed, and nothing changed
abbrev pub FoundNone : {D : Type 0} → Disks D → ℕ → Option (List ℕ) → Device D → Device D → Type 0
FoundNone d r family old new = ∥ ((h : History) × HasHistory d old h × HasHistory d new (committed_in h) × NoneKept (committed h.kept) r family) ∥₁

-- A device's flush, and the closed logs that went after it.
pub record FlushesDevice {D : Type 0} (d : Disks D) (r : ℕ) (family : Option (List ℕ)) (result : Result ℕ DeviceFlush) (old new : Device D) : Type 0 where
  -- the region has a store file more after Ok, and else none
  pub stores : (IsBroken new → ⊥) → get_or (numbers_of new).next_store r 0 ≡ get_or (numbers_of old).next_store r 0 + stores_in result
  -- where one family was asked for, nothing more is told to be stored
  pub alone : (f : List ℕ) → family ≡ Some f → (numbers_of new).stored ≡ (numbers_of old).stored
  -- on a told disk Ok comes only where a cell of the family wasn't flushed, and `Nothing` only where none was
  pub flushed : IsTrue d.told → IfOk result (Flushed d r family old new)
  pub nothing : IsTrue d.told → (n : ℕ) → result ≡ Err (flushes.Nothing n) → FoundNone d r family old new

-- What a flush answers, of a half.
pub record FlushesFamily {D N : Type 0} (d : Disks D) (g : Ghosts N) (r : ℕ) (family : Option (List ℕ)) (result : Result ℕ DeviceFlush) (new : DeviceHalf D N d g) : Type 0 where
  pub before : DeviceHalf D N d g
  pub popped : view before.consumer.pass ≡ view new.consumer.pass
  pub flush : FlushesDevice d r family result before.device new.device
