-- The files on which the log of an opened store is begun.
use Rattle.std.specs.Prelude.{◌≡◌, ◌≤◌}
use Rattle.log_model.specs.declared.name.Name.{Name}
use Rattle.log_model.specs.declared.name.NameKind.TheVariants as kinds
use Rattle.log_model.specs.Files.{Files, IsPresent}
use Rattle.recovery_laws.specs.Kept.{HasNoLogs}

-- they have no log and no edits file, and each store is of a region from 1 to 64
pub record AreCleared (files : Files) : Type 0 where
  pub no_logs : HasNoLogs files
  pub regions : (m : Name) → IsPresent files m → m.kind ≡ kinds.Store → (1 ≤ m.region) × (m.region ≤ 64)
