-- What a crash may leave of a device's files at a moment of a call.
use Rattle.std.specs.Prelude.{◌<◌, ◌≤◌, ℕ, List, Contains, get_or}
use Rattle.cell_model.specs.Order.{VersionKey, Payload}
use Rattle.log_model.specs.declared.name.Name.{Name}
use Rattle.log_model.specs.Entry.{Entry}
use Rattle.log_model.specs.Files.{Files, IsLogFile, IsLastLog}
use Rattle.log_model.specs.Recovered.{IsRecovered, IsStored}
use Rattle.recovery_laws.specs.Change.{RecoversSome}

-- what recovers of a region up to this number is in stores
abbrev pub IsStoredTo : List ℕ → Files → Type 0
IsStoredTo stored J = (r : ℕ) (v : VersionKey) (p : Payload) → IsRecovered J r v p → v.number ≤ get_or stored r 0 → IsStored J r v p

-- the last log has no entry up to this number
abbrev pub IsClosedTo : List ℕ → Files → Type 0
IsClosedTo closed J = (name : Name) (es : List Entry) (e : Entry) → IsLastLog J name → IsLogFile J name es → Contains es e → get_or closed e.region 0 < e.number

-- it is fit, recovers to these files with the first of these entries, and the numbers say the truth of it
pub record Leaves (stored closed : List ℕ) (before : Files) (staged : List Entry) (J : Files) : Type 0 where
  pub recovers : RecoversSome before staged J
  pub in_stores : IsStoredTo stored J
  pub in_last_log : IsClosedTo closed J
