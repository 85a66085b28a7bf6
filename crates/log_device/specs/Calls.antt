-- What each call of a device does. Of each call one record says what the disk, each crash image and the history become, and one
-- what the numbers and the current file become, whatever the disk tells.
use Rattle.std.specs.Prelude.{◌≡◌, ◌⊎◌, ◌<◌, ◌≤◌, ◌+◌, ◌==◌, if◌then◌else◌, ℕ, List, [], length, get_or, slice_set}
use Rattle.std.specs.Prelude.{Option, Some, None, Result, Ok, Err, IfOk, OnOk, OnErr, IsErrOf}
use Rattle.log_model.specs.Entry.{Entry, IsEntry, entry_frame}
use Rattle.recovery_laws.specs.Kept.{lasts}
use Rattle.disk_images.specs.declared.disk.Disk.{Ghosts}
use Rattle.chronicle_model.specs.Growth.{LowerLogsStay, AppendsTo}
use Rattle.log_file.specs.Open.{OpenLog}
use Rattle.log_trucks.specs.Held.{Haul}
use Rattle.log_ledger.specs.History.{ClosedLog, History, staged_in, committed_in, closed_in, flushed_in, family_in, with_logs}
use Rattle.log_ledger.specs.Numbers.{IsServed, SameRegions, AreStoresFew}
use Rattle.log_ledger.specs.Counted.{HasUnflushed, LogsLeft}
use Rattle.log_device.specs.declared.device.Device.{Device}
use Rattle.log_device.specs.declared.error.Rolled.{Rolled}
use Rattle.log_device.specs.declared.error.RollRefusal.{RollRefusal}
use Rattle.log_device.specs.declared.error.RollRefusal.TheVariants as roll_refusals
use Rattle.log_device.specs.declared.error.DeviceFlush.{DeviceFlush}
use Rattle.log_device.specs.declared.error.DeviceFlush.TheVariants as flush_refusals
use Rattle.log_device.specs.Bears.{Bears}
use Rattle.log_device.specs.Keeps.{IsInOrder, log_name}
use Rattle.log_device.specs.Flushed.{NoneKept, HasStore}
use Rattle.log_device.specs.Whole.{IsBroken, IsCommitted, IsIdle, HasStaged, IsBegunAfter, NoneFell}
use Rattle.log_device.specs.Whole.{disk_of, log_of, numbers_of, view_of, files_of, HasHistory, EachImage, LeavesAt}

-- a stage of this truck by a device with this history
pub record Stages {D T E : Type 0} (g : Ghosts D) (h : History) (truck : Haul) (result : Result T E) (old new : Device D) : Type 0 where
  -- after Ok the truck's entry is the last one staged
  pub staged : (e : Entry) → IsEntry e → truck.bytes ≡ entry_frame e → e.region ≡ truck.region → e.number ≡ truck.number
      → OnOk result (HasHistory g new (staged_in h e))

pub record StagesNumbers {D T E : Type 0} (truck : Haul) (result : Result T E) (old new : Device D) : Type 0 where
  -- no disk call is made
  pub disk : disk_of new ≡ disk_of old
  pub file : (file : OpenLog) → log_of old ≡ Some file → OnOk result (HasStaged file (length truck.bytes) (log_of new))
  pub unbroken : OnOk result (IsBroken new → ⊥)
  pub drawn : OnOk result ((numbers_of new).drawn ≡ slice_set (numbers_of old).drawn truck.region truck.number)
  -- the same, by region
  pub drawn_at : (r : ℕ) → OnOk result (get_or (numbers_of new).drawn r 0 ≡ (if truck.region == r then truck.number else get_or (numbers_of old).drawn r 0))
  pub synced : (numbers_of new).synced ≡ (numbers_of old).synced
  pub stored : (numbers_of new).stored ≡ (numbers_of old).stored
  pub closed : (numbers_of new).closed ≡ (numbers_of old).closed
  pub next_store : (numbers_of new).next_store ≡ (numbers_of old).next_store
  pub few : (limit : ℕ) → AreStoresFew limit (numbers_of old) → AreStoresFew limit (numbers_of new)

-- a sync by a device with this history
pub record Syncs {D E : Type 0} (g : Ghosts D) (h : History) (result : Result ℕ E) (old new : Device D) : Type 0 where
  -- at each moment each image is fit, and recovers to the files as they read with the first of the staged entries
  pub any_moment : EachImage g (LeavesAt g old h.kept.staged) 4 old new
  -- and its files bear names that the device gives
  pub names : (file : OpenLog) → log_of old ≡ Some file → EachImage g (Bears h.kept.base (numbers_of old).next_store file.name.number) 4 old new
  pub committed : OnOk result (HasHistory g new (committed_in h))
  -- the logs below the current one read as they did, whatever the call answers
  pub lower : (file : OpenLog) → log_of old ≡ Some file → LowerLogsStay file.name.number (files_of g old) (files_of g new)

pub record SyncsNumbers {D E : Type 0} (result : Result ℕ E) (old new : Device D) : Type 0 where
  -- it gives how many entries were staged
  pub count : (file : OpenLog) → log_of old ≡ Some file → IfOk result (λ n. n ≡ file.staged)
  -- where nothing is staged it makes no disk call, and does not fail
  pub idle : (file : OpenLog) → log_of old ≡ Some file → file.staged ≡ 0 → (disk_of new ≡ disk_of old) × (result ≡ Ok 0)
  pub file : (file : OpenLog) → log_of old ≡ Some file → OnOk result (IsCommitted file (log_of new))
  -- nothing is staged after it, whatever it answers
  pub emptied : IsIdle (log_of new)
  pub synced : OnOk result ((numbers_of new) ≡ record (numbers_of old) { synced = (numbers_of old).drawn })
  -- after a fault all numbers are as they were
  pub faulty : OnErr result (numbers_of new ≡ numbers_of old)
  pub never_falls : (r : ℕ) → get_or (numbers_of old).synced r 0 ≤ get_or (numbers_of new).synced r 0
  pub few : (limit : ℕ) → AreStoresFew limit (numbers_of old) → AreStoresFew limit (numbers_of new)

-- A roll of at most so many disk calls by a device with these staged entries, which has this history once they are committed.
pub record RollsFrom {D : Type 0} (g : Ghosts D) (calls : ℕ) (staged : List Entry) (h : History) (result : Result Rolled RollRefusal) (old new : Device D) : Type 0 where
  -- at each moment each image is fit, and recovers to the files as they read with the first of the staged entries
  pub any_moment : EachImage g (LeavesAt g old staged) calls old new
  -- and its files bear names that the device gives
  pub names : (file : OpenLog) → log_of old ≡ Some file → EachImage g (Bears h.kept.base (numbers_of old).next_store (file.name.number + 1)) calls old new
  -- in each image in which the file that the call begins has a byte, the old file has every entry staged into it
  pub in_order : (file : OpenLog) → log_of old ≡ Some file
      → EachImage g (IsInOrder file.name (log_name (file.name.number + 1)) h.current) calls old new
  -- the closed file has all its entries
  pub rolled : IfOk result (λ rolled. HasHistory g new (closed_in h rolled.closed) × (rolled.entries ≡ length h.current))
  -- after a refusal what was staged is committed, unless the device is broken
  pub refused : OnErr result ((IsBroken new → ⊥) → HasHistory g new h)
  -- the logs below the current one read as they did, whatever the call answers
  pub lower : (file : OpenLog) → log_of old ≡ Some file → LowerLogsStay file.name.number (files_of g old) (files_of g new)

-- a roll by a device with this history
abbrev pub Rolls : {D : Type 0} → Ghosts D → History → Result Rolled RollRefusal → Device D → Device D → Type 0
Rolls g h result old new = RollsFrom g 11 h.kept.staged (committed_in h) result old new

pub record RollsNumbers {D : Type 0} (result : Result Rolled RollRefusal) (old new : Device D) : Type 0 where
  -- it gives the number of the file that it closed, which has an entry, and how many it has
  pub file : (file : OpenLog) → log_of old ≡ Some file
      → IfOk result (λ rolled. (rolled.closed ≡ file.name.number) × (rolled.entries ≡ file.entries + file.staged) × (0 < rolled.entries))
  pub next : (file : OpenLog) → log_of old ≡ Some file → OnOk result (IsBegunAfter file (log_of new))
  -- `NothingToRoll` comes exactly where the file has no entry, unless a disk call fails
  pub nothing : (file : OpenLog) (n : ℕ) → log_of old ≡ Some file → result ≡ Err (roll_refusals.NothingToRoll n)
      → (n ≡ file.name.number) × (file.entries + file.staged ≡ 0)
  pub empty : (file : OpenLog) → log_of old ≡ Some file → file.entries + file.staged ≡ 0
      → (IsBroken new → ⊥) → result ≡ Err (roll_refusals.NothingToRoll file.name.number)
  -- nothing is staged after it, whatever it answers
  pub emptied : IsIdle (log_of new)
  pub closed : OnOk result ((numbers_of new).closed ≡ (numbers_of new).synced)
  pub closed_empty : (n : ℕ) → result ≡ Err (roll_refusals.NothingToRoll n) → (numbers_of new).closed ≡ (numbers_of new).synced
  pub closed_still : IsErrOf result roll_refusals.Memory → (numbers_of new).closed ≡ (numbers_of old).closed
  pub closed_broken : IsBroken new → (numbers_of new).closed ≡ (numbers_of old).closed
  pub synced : (IsBroken new → ⊥) → (numbers_of new).synced ≡ (numbers_of old).drawn
  pub synced_either : ((numbers_of new).synced ≡ (numbers_of old).synced) ⊎ ((numbers_of new).synced ≡ (numbers_of old).drawn)
  pub later : NoneFell (numbers_of old) (numbers_of new)
  pub stored : (numbers_of new).stored ≡ (numbers_of old).stored
  pub drawn : (numbers_of new).drawn ≡ (numbers_of old).drawn
  pub next_store : (numbers_of new).next_store ≡ (numbers_of old).next_store
  pub few : (limit : ℕ) → AreStoresFew limit (numbers_of old) → AreStoresFew limit (numbers_of new)

-- the end of this file, in which nothing is staged, and the begin of the next one, by a device with this history
pub record BeginsNext {D T E : Type 0} (g : Ghosts D) (h : History) (file : OpenLog) (result : Result T E) (old new : Device D) : Type 0 where
  pub any_moment : EachImage g (LeavesAt g old []) 7 old new
  pub names : EachImage g (Bears h.kept.base (numbers_of old).next_store (file.name.number + 1)) 7 old new
  pub in_order : EachImage g (IsInOrder file.name (log_name (file.name.number + 1)) h.current) 7 old new
  pub appends : AppendsTo file.name.number (files_of g old) (files_of g new)
  pub closed : OnOk result (HasHistory g new (closed_in h file.name.number))

pub record BeginsNextNumbers {D T E : Type 0} (result : Result T E) (old new : Device D) : Type 0 where
  pub next : (file : OpenLog) → log_of old ≡ Some file → OnOk result (IsBegunAfter file (log_of new))
  -- nothing is staged after it, whatever it answers
  pub emptied : IsIdle (log_of new)
  pub closed : OnOk result ((numbers_of new).closed ≡ (numbers_of old).synced)
  pub closed_faulty : OnErr result ((numbers_of new).closed ≡ (numbers_of old).closed)
  -- and the other numbers are as they were
  pub same : SameRegions (numbers_of old) (record (numbers_of new) { closed = (numbers_of old).closed })
  pub few : (limit : ℕ) → AreStoresFew limit (numbers_of old) → AreStoresFew limit (numbers_of new)

-- A flush of region r, of one family or of all, by a device with these staged entries, which has this history once they are
-- committed.
pub record FlushesFrom {D : Type 0} (g : Ghosts D) (staged : List Entry) (h : History) (r : ℕ) (family : Option (List ℕ)) (result : Result ℕ DeviceFlush) (old new : Device D) : Type 0 where
  -- at each moment each image is fit, and recovers to the files as they read with the first of the staged entries
  pub any_moment : (bound : ℕ) × EachImage g (LeavesAt g old staged) bound old new
  -- and its files bear names that the device gives
  pub names : (file : OpenLog) → log_of old ≡ Some file
      → (bound : ℕ) × EachImage g (Bears h.kept.base (numbers_of old).next_store file.name.number) bound old new
  -- the region's last number is flushed then, of this family or of all
  pub flushed : IfOk result
      (λ n. (n ≡ lasts h.kept.first h.kept.durable r) × HasUnflushed h.kept r family × HasHistory g new (flushed_in h r (family_in family) n))
  -- the region's next store file is durable, from the first number that wasn't flushed on
  pub store : IfOk result
      (λ n. HasStore (view_of g new) r (family_in family) (get_or (numbers_of old).next_store r 0) (h.kept.flushed r (family_in family) + 1) n)
  pub nothing : (n : ℕ) → result ≡ Err (flush_refusals.Nothing n) → (n ≡ lasts h.kept.first h.kept.durable r) × NoneKept h.kept r family
  -- after a refusal what was staged is committed, unless the device is broken
  pub refused : OnErr result ((IsBroken new → ⊥) → HasHistory g new h)
  -- the logs below the current one read as they did, whatever the call answers
  pub lower : (file : OpenLog) → log_of old ≡ Some file → LowerLogsStay file.name.number (files_of g old) (files_of g new)

-- a flush of region r, of one family or of all, by a device with this history
abbrev pub Flushes : {D : Type 0} → Ghosts D → History → ℕ → Option (List ℕ) → Result ℕ DeviceFlush → Device D → Device D → Type 0
Flushes g h r family result old new = FlushesFrom g h.kept.staged (committed_in h) r family result old new

pub record FlushesNumbers {D : Type 0} (r : ℕ) (family : Option (List ℕ)) (result : Result ℕ DeviceFlush) (old new : Device D) : Type 0 where
  -- it gives the region's last number, also where there is nothing to flush
  pub number : IfOk result (λ n. n ≡ get_or (numbers_of old).drawn r 0)
  pub nothing_number : (n : ℕ) → result ≡ Err (flush_refusals.Nothing n) → n ≡ get_or (numbers_of old).drawn r 0
  -- which, in a flush of all, is above what was told of it
  pub above : family ≡ None → IfOk result (λ n. get_or (numbers_of old).stored r 0 < n)
  -- what is told of the region is the number that a flush of all gave; a flush of one family changes nothing in what is told
  pub stored : family ≡ None → IfOk result (λ n. get_or (numbers_of new).stored r 0 ≡ n)
  pub stored_nothing : family ≡ None → (n : ℕ) → result ≡ Err (flush_refusals.Nothing n) → get_or (numbers_of new).stored r 0 ≡ n
  pub stored_of_one : (f : List ℕ) → family ≡ Some f → (numbers_of new).stored ≡ (numbers_of old).stored
  pub stored_still : (IsErrOf result flush_refusals.Memory ⊎ IsErrOf result flush_refusals.WriteFault) → (numbers_of new).stored ≡ (numbers_of old).stored
  pub others : (q : ℕ) → (q ≡ r → ⊥) → get_or (numbers_of new).stored q 0 ≡ get_or (numbers_of old).stored q 0
  pub next_store : OnOk result ((numbers_of new).next_store ≡ slice_set (numbers_of old).next_store r (get_or (numbers_of old).next_store r 0 + 1))
  pub next_store_still : OnErr result ((numbers_of new).next_store ≡ (numbers_of old).next_store)
  pub few : (limit : ℕ) → AreStoresFew limit (numbers_of old) → AreStoresFew limit (numbers_of new)
  pub served : (q : ℕ) → IsServed (numbers_of old) q → IsServed (numbers_of new) q
  pub file : (file : OpenLog) → log_of old ≡ Some file → (IsBroken new → ⊥) → IsCommitted file (log_of new)
  -- nothing is staged after it, whatever it answers
  pub emptied : IsIdle (log_of new)
  pub synced : (IsBroken new → ⊥) → (numbers_of new).synced ≡ (numbers_of old).drawn
  pub synced_either : ((numbers_of new).synced ≡ (numbers_of old).synced) ⊎ ((numbers_of new).synced ≡ (numbers_of old).drawn)
  pub later : NoneFell (numbers_of old) (numbers_of new)
  pub closed : (numbers_of new).closed ≡ (numbers_of old).closed
  pub drawn : (numbers_of new).drawn ≡ (numbers_of old).drawn

-- an archiving by a device with this history
pub record Archives {D E : Type 0} (g : Ghosts D) (h : History) (result : Result ℕ E) (old new : Device D) : Type 0 where
  -- at each moment each image is fit, and recovers to the files as they read
  pub any_moment : EachImage g (LeavesAt g old []) (length h.logs) old new
  -- and its files bear names that the device gives
  pub names : (file : OpenLog) → log_of old ≡ Some file
      → EachImage g (Bears h.kept.base (numbers_of old).next_store file.name.number) (length h.logs) old new
  -- the logs that are left are those that are not wholly flushed, and no other was renamed
  pub archived : IfOk result (λ n. (left : List ClosedLog) × LogsLeft h left × (length left + n ≡ length h.logs) × HasHistory g new (with_logs h left))
  -- the logs below the current one read as they did, whatever the call answers
  pub lower : (file : OpenLog) → log_of old ≡ Some file → LowerLogsStay file.name.number (files_of g old) (files_of g new)

pub record ArchivesNumbers {D E : Type 0} (result : Result ℕ E) (old new : Device D) : Type 0 where
  pub file : OnOk result (log_of new ≡ log_of old)
  pub drawn : (numbers_of new).drawn ≡ (numbers_of old).drawn
  pub synced : (numbers_of new).synced ≡ (numbers_of old).synced
  pub stored : (numbers_of new).stored ≡ (numbers_of old).stored
  pub closed : (numbers_of new).closed ≡ (numbers_of old).closed
  pub next_store : (numbers_of new).next_store ≡ (numbers_of old).next_store
  pub few : (limit : ℕ) → AreStoresFew limit (numbers_of old) → AreStoresFew limit (numbers_of new)
