-- A disk on which a region may be compacted, and what a compaction answers.
use Rattle.std.specs.Prelude.{◌≡◌, ◌≤◌, ◌^◌, ℕ, Result, Ok, Err}
use Rattle.log_model.specs.declared.name.Name.{Name}
use Rattle.log_model.specs.declared.name.NameKind.TheVariants as names
use Rattle.log_model.specs.Files.{Files, content, IsPresent}
use Rattle.recovery_laws.specs.Kept.{HasNoLogs}
use Rattle.disk_images.specs.Crash.{DiskView, IsImageNow}
use Rattle.store_compact.specs.declared.refusal.CompactRefusal.{CompactRefusal}
use Rattle.store_compact.specs.declared.refusal.CompactRefusal.TheVariants as refusals

-- No name is gone, neither the files nor an image have a log or an edits file, each image has the stores as they read, and no
-- name has a number above 2^63: what an opening leaves. Whether the stores are whole is not said.
pub record IsAtRest (disk : DiskView) : Type 0 where
  pub none_gone : (m : Name) → ¬ disk.gone m
  pub no_logs : HasNoLogs disk.files
  pub no_logs_in : (J : Files) → IsImageNow disk J → HasNoLogs J
  pub stores_in : (J : Files) (m : Name) → IsImageNow disk J → m.kind ≡ names.Store → content J m ≡ content disk.files m
  pub small : (m : Name) → IsPresent disk.files m → m.number ≤ 2 ^ 63

-- where the answer is damage, P holds of its name and place
abbrev pub IfDamaged : {T : Type 0} → Result T CompactRefusal → (Name → ℕ → Type 0) → Type 0
IfDamaged (Ok x) P = Unit {0}
IfDamaged (Err (refusals.Damaged name at)) P = P name at
IfDamaged (Err (refusals.NothingToCompact files)) P = Unit {0}
IfDamaged (Err refusals.Memory) P = Unit {0}
IfDamaged (Err refusals.DiskFault) P = Unit {0}

-- where the answer is that there is nothing to do, P holds of the number of files
abbrev pub IfNothing : {T : Type 0} → Result T CompactRefusal → (ℕ → Type 0) → Type 0
IfNothing (Ok x) P = Unit {0}
IfNothing (Err (refusals.Damaged name at)) P = Unit {0}
IfNothing (Err (refusals.NothingToCompact files)) P = P files
IfNothing (Err refusals.Memory) P = Unit {0}
IfNothing (Err refusals.DiskFault) P = Unit {0}

-- where all store files of the region were read, P holds
abbrev pub IfRead : {T : Type 0} → Result T CompactRefusal → Type 0 → Type 0
IfRead (Ok x) P = P
IfRead (Err (refusals.NothingToCompact files)) P = P
IfRead (Err (refusals.Damaged name at)) P = Unit {0}
IfRead (Err refusals.Memory) P = Unit {0}
IfRead (Err refusals.DiskFault) P = Unit {0}
