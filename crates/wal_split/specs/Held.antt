-- A disk on which a store is opened.
use Rattle.std.specs.Prelude.{◌≡◌, ◌≢◌, ◌≤◌, ◌^◌, None}
use Rattle.log_model.specs.declared.name.Name.{Name}
use Rattle.log_model.specs.declared.name.NameKind.TheVariants as kinds
use Rattle.log_model.specs.Files.{Files, content, HoldsEntries, IsPresent}
use Rattle.disk_images.specs.Crash.{DiskView, IsImageNow}
use Rattle.recovery_laws.specs.Alike.{AllAlike, StoresStand}

-- Each image has the stores as they read, and each log and edits file that is there. Each is fit, and recovers to what the
-- base does.
pub record IsHeld (base : Files) (disk : DiskView) : Type 0 where
  pub stores : (J : Files) → IsImageNow disk J → StoresStand disk.files J
  pub there : (J : Files) (m : Name) → IsImageNow disk J → HoldsEntries m.kind → IsPresent disk.files m → content J m ≡ content disk.files m
  pub alike : (J : Files) → IsImageNow disk J → AllAlike base J
  pub unmoved : (n m : Name) → n.kind ≢ kinds.Old → ¬ disk.formerly n m
  pub gone : (m : Name) → disk.gone m → HoldsEntries m.kind

-- The same without a log, no name has a number above 2^63, and no edits file has region 0: what a replay begins with.
pub record IsSplit (disk : DiskView) : Type 0 where
  pub held : IsHeld disk.files disk
  pub no_logs : (m : Name) → m.kind ≡ kinds.Log → content disk.files m ≡ None
  pub small : (m : Name) → IsPresent disk.files m → m.number ≤ 2 ^ 63
  pub given : (m : Name) → m.kind ≡ kinds.Edits → IsPresent disk.files m → 1 ≤ m.region
