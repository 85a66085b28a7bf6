-- What the device's half has made of the chains that were popped.
use Rattle.std.specs.Prelude.{◌≡◌, ℕ, ◌+◌, ◌^◌, ◌<◌, ◌≤◌, List, [], ◌++◌, length, take, get_or, Bool, is_none}
use Rattle.log_model.specs.Entry.{Entry}
use Rattle.log_model.specs.Files.{Files, IsPresent}
use Rattle.log_model.specs.declared.name.Name.{Name}
use Rattle.recovery_laws.specs.Change.{RecoversSome}
use Rattle.recovery_laws.specs.Kept.{IsLike, IsOrderly, lasts}
use Rattle.disk_images.specs.Crash.{DiskView, IsImageNow}
use Rattle.append_ring.specs.Rules.{base_of}
use Rattle.log_trucks.specs.Held.{Held, AreHeld}
use Rattle.log_ledger.specs.History.{History}
use Rattle.log_ledger.specs.Numbers.{Numbers, AreStoresFew}
use Rattle.log_ledger.specs.Counted.{NoneMayGo}
use Rattle.log_device.specs.declared.device.Device.{Device}
use Rattle.log_device.specs.Bears.{Bears}
use Rattle.log_device.specs.Leaves.{Leaves}
use Rattle.log_device.specs.Whole.{IsWhole, log_of, numbers_of}

-- the history began with these files and these numbers
pub record BeganWith (found : Files) (lasts_then : List ℕ) (h : History) : Type 0 where
  pub base : h.kept.base ≡ found
  pub first : (r : ℕ) → 0 < r → r ≤ length lasts_then → h.kept.first r ≡ base_of lasts_then r

-- no file has a number above this one
abbrev pub AreNumbersUpTo : ℕ → Files → Type 0
AreNumbersUpTo n files = (m : Name) → IsPresent files m → m.number ≤ n

-- The numbers of the regions' next stores are above those of the files found by no more than one, a sequence id that was flushed at the
-- start, and the flushes that came off since then.
abbrev pub HasFewStores : Files → Numbers → Type 0
HasFewStores found b = (n : ℕ) → AreNumbersUpTo n found → AreStoresFew (n + 2 ^ 48) b

-- The names in each image go on from those found. There is at most a log for each entry, and no more than 2^59 new stores of a region.
pub record BearsFew (found : Files) (disk : DiskView) (h : History) : Type 0 where
  pub next_store : List ℕ
  pub last : ℕ
  pub names : (J : Files) → IsImageNow disk J → Bears found next_store last J
  pub logs : (n : ℕ) → AreNumbersUpTo n found → last ≤ n + 2 + length (h.kept.durable ++ h.kept.staged)
  pub stores : (n : ℕ) → AreNumbersUpTo n found → (r : ℕ) → get_or next_store r 0 ≤ n + 1 + 2 ^ 59

-- a device that isn't broken: all these are committed, and no closed log is wholly flushed
pub record Stands {D : Type 0} (base : Files) (first : List ℕ) (d : Device D) (disk : DiskView) (popped : List Held) (h : History) : Type 0 where
  pub whole : IsWhole d disk h
  pub began : BeganWith base first h
  pub idle : h.kept.staged ≡ []
  pub all : AreHeld popped h.kept.durable
  pub none_may_go : NoneMayGo h
  pub few : HasFewStores base (numbers_of d)

-- a broken device: these were the files when the call that broke it began, and each image leaves them with the first of what was staged then
pub record Fell {D : Type 0} (base : Files) (first : List ℕ) (d : Device D) (disk : DiskView) (popped : List Held) (h : History) : Type 0 where
  pub files : Files
  pub like : IsLike h.kept files
  pub orderly : IsOrderly h.kept
  pub began : BeganWith base first h
  pub taken : ℕ
  pub within : taken ≤ length popped
  pub all : AreHeld (take taken popped) (h.kept.durable ++ h.kept.staged)
  pub synced : (r : ℕ) → 0 < r → r ≤ length first → get_or (numbers_of d).synced r 0 ≤ lasts h.kept.first h.kept.durable r
  pub left : (J : Files) → IsImageNow disk J → Leaves (numbers_of d).stored (numbers_of d).closed files h.kept.staged J
  pub names : BearsFew base disk h

-- it recovers to these files with a beginning of the entries of these trucks
pub record RecoversHeld (base : Files) (trucks : List Held) (J : Files) : Type 0 where
  pub entries : List Entry
  pub held : AreHeld trucks entries
  pub recovers : RecoversSome base entries J

abbrev pub broken_of : {D : Type 0} → Device D → Bool
broken_of d = is_none (log_of d)
