-- A store that was opened, on which a device may be started, and what the start leaves.
use Rattle.std.specs.Prelude.{◌≡◌, ◌<◌, ◌≤◌, ◌^◌, ℕ, List, Contains, Result, Ok, Err}
use Rattle.log_model.specs.declared.name.Name.{Name}
use Rattle.log_model.specs.declared.name.NameKind.{NameKind}
use Rattle.log_model.specs.declared.name.NameKind.TheVariants as kinds
use Rattle.log_model.specs.Files.{Files, content, IsFit, IsPresent}
use Rattle.log_model.specs.Recovered.{IsGreatest, IsFlushed}
use Rattle.recovery_laws.specs.Kept.{HasNoLogs}
use Rattle.disk_images.specs.Crash.{DiskView, IsImageNow}
use Rattle.log_ledger.specs.declared.base.RegionBase.{RegionBase}
use Rattle.log_device.specs.declared.device.Device.{Device}
use Rattle.log_device.specs.declared.error.DeviceRefusal.{DeviceRefusal}

-- No name is gone, no image has a log or an edits file, and each has the store files that are there as they read, and no
-- other. The regions' numbers are those of these files.
pub record IsOpened (disk : DiskView) (regions : List RegionBase) (flushed : ℕ → ℕ) : Type 0 where
  pub none_gone : (m : Name) → ¬ disk.gone m
  pub fit : IsFit disk.files
  pub no_logs : HasNoLogs disk.files
  pub no_logs_in : (J : Files) → IsImageNow disk J → HasNoLogs J
  pub stores_in : (J : Files) (m : Name) → IsImageNow disk J → m.kind ≡ kinds.Store → content J m ≡ content disk.files m
  pub small : (m : Name) → IsPresent disk.files m → m.number ≤ 2 ^ 63
  pub flushed_of : (r : ℕ) (f : List ℕ) → IsFlushed disk.files r f (flushed r)
  pub marks : (m : RegionBase) → Contains regions m → flushed m.region ≡ m.flushed
  pub next : (m : RegionBase) (n : Name) → Contains regions m → n.kind ≡ kinds.Store → n.region ≡ m.region → IsPresent disk.files n → n.number < m.next_store

abbrev pub number_by : NameKind → ℕ → ℕ
number_by kinds.Log n = n
number_by kinds.Old n = n
number_by kinds.Store n = 0
number_by kinds.Edits n = 0

-- the number of a log or of an old log, 0 of another file
abbrev pub log_number : Name → ℕ
log_number m = number_by m.kind m.number

-- the greatest number of a log or of an old log that is there, 0 where none is
abbrev pub IsLastNumber : Files → ℕ → Type 0
IsLastNumber files n = IsGreatest (λ k. (m : Name) × IsPresent files m × (log_number m ≡ k)) n

-- the disk of a start, whether it was refused or not
abbrev pub started_disk : {D : Type 0} → Result (Device D) (DeviceRefusal D) → D
started_disk (Ok d) = d.disk
started_disk (Err e) = e.disk
