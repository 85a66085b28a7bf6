-- A disk on which a store was opened.
use Rattle.std.specs.Prelude.{◌≡◌, ◌≤◌, ◌^◌}
use Rattle.log_model.specs.declared.name.Name.{Name}
use Rattle.log_model.specs.declared.name.NameKind.TheVariants as kinds
use Rattle.log_model.specs.Files.{Files, content, IsFit, IsPresent}
use Rattle.recovery_laws.specs.Kept.{HasNoLogs}
use Rattle.disk_images.specs.Crash.{DiskView, IsImageNow}

-- No name is gone, the files are fit, neither they nor an image have a log or an edits file, and each image has the stores
-- as they read, and no other.
pub record IsCleared (disk : DiskView) : Type 0 where
  pub none_gone : (m : Name) → ¬ disk.gone m
  pub fit : IsFit disk.files
  pub no_logs : HasNoLogs disk.files
  pub no_logs_in : (J : Files) → IsImageNow disk J → HasNoLogs J
  pub stores_in : (J : Files) (m : Name) → IsImageNow disk J → m.kind ≡ kinds.Store → content J m ≡ content disk.files m

-- What a device asks of the disk that it starts on: the same, each name has a number of at most 2^63, and each store is of
-- a region from 1 to 64.
pub record IsReady (disk : DiskView) : Type 0 where
  pub none_gone : (m : Name) → ¬ disk.gone m
  pub fit : IsFit disk.files
  pub no_logs : HasNoLogs disk.files
  pub no_logs_in : (J : Files) → IsImageNow disk J → HasNoLogs J
  pub stores_in : (J : Files) (m : Name) → IsImageNow disk J → m.kind ≡ kinds.Store → content J m ≡ content disk.files m
  pub small : (m : Name) → IsPresent disk.files m → m.number ≤ 2 ^ 63
  pub regions : (m : Name) → IsPresent disk.files m → m.kind ≡ kinds.Store → (1 ≤ m.region) × (m.region ≤ 64)
