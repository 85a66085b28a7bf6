-- Which names a device's files bear.
use Rattle.std.specs.Prelude.{◌≡◌, ◌≢◌, ◌⊎◌, ◌<◌, ◌≤◌, ℕ, List, get_or}
use Rattle.log_model.specs.declared.name.Name.{Name}
use Rattle.log_model.specs.declared.name.NameKind.TheVariants as kinds
use Rattle.log_model.specs.Files.{Files, IsAbsent, IsPresent}

-- no log or old log has a number above this one
abbrev pub IsLogsUpTo : ℕ → Files → Type 0
IsLogsUpTo n files = (m : Name) → (m.kind ≡ kinds.Log) ⊎ (m.kind ≡ kinds.Old) → IsPresent files m → m.number ≤ n

-- Logs have numbers up to the last one, old logs lower ones, and no log has the number of an old one. A store file was found, or has
-- a number up to the next one of its region. There is no edits file.
pub record Bears (found : Files) (next_store : List ℕ) (last : ℕ) (J : Files) : Type 0 where
  pub logs : (m : Name) → m.kind ≡ kinds.Log → IsPresent J m → (m.region ≡ 0) × (m.number ≤ last)
  pub olds : (m : Name) → m.kind ≡ kinds.Old → IsPresent J m → (m.region ≡ 0) × (m.number < last)
  pub apart : (a b : Name) → a.kind ≡ kinds.Log → b.kind ≡ kinds.Old → IsPresent J a → IsPresent J b → a.number ≢ b.number
  pub stores : (m : Name) → m.kind ≡ kinds.Store → IsPresent J m
      → IsPresent found m ⊎ ((1 ≤ m.region) × (m.region ≤ 64) × (m.number ≤ get_or next_store m.region 0))
  pub no_edits : (m : Name) → m.kind ≡ kinds.Edits → IsAbsent J m
