-- What a command finds in the file of a log, and how its reading is refused.
use Rattle.std.specs.Prelude.{◌≡◌, ℕ, List, [], ◌∷◌, Option, Result, Ok, Err}
use Rattle.log_model.specs.declared.name.Name.{Name}
use Rattle.log_model.specs.declared.name.NameKind.TheVariants as kinds
use Rattle.log_model.specs.declared.damage.Damage.{Damage}
use Rattle.log_model.specs.declared.damage.Damage.TheVariants.{Bytes, Two}
use Rattle.log_model.specs.Entry.{Entry}
use Rattle.log_model.specs.LogText.{IsLogText, IsDamaged}
use Rattle.log_model.specs.Files.{Files, Reads, key_of}
use Rattle.command_base.specs.Status.{IsOrEarlier}
use Rattle.command_base.specs.declared.status.Status.{Status}
use Rattle.command_base.specs.declared.status.Status.TheVariants as ends

abbrev pub log_name : ℕ → Name
log_name n = record { kind = kinds.Log; region = 0; number = n }

-- the file is a text with these entries
abbrev pub IsFound : Files → Name → List Entry → Option ℕ → Type 0
IsFound files name es ended = (bytes : List ℕ) × Reads files name bytes × IsLogText (key_of name) bytes es ended

-- the file is no text of its name, which shows at this place
abbrev pub IsDamagedLog : Files → Name → ℕ → Type 0
IsDamagedLog files name at = (bytes : List ℕ) × Reads files name bytes × IsDamaged (key_of name) bytes at

-- it is this file that is damaged, and there
abbrev pub IsLogDamage : Files → Name → Damage → Type 0
IsLogDamage files name (Bytes damaged at) = (damaged ≡ name) × IsDamagedLog files damaged at
IsLogDamage files name (Two first second region number) = ⊥

-- nothing was read of a file that is damaged there, and the refusal tells it
abbrev pub ReportsDamage : {T : Type 0} → Name → Result T Status → ℕ → Type 0
ReportsDamage name (Ok text) at = ⊥
ReportsDamage name (Err status) at = IsOrEarlier status (ends.Damaged (Bytes name at)) (ends.DiskFault ∷ [])

-- how the reading of a log is refused
abbrev pub IsLogRefusal : Status → Type 0
IsLogRefusal ends.Memory = Unit {0}
IsLogRefusal ends.DiskFault = Unit {0}
IsLogRefusal (ends.Damaged damage) = Unit {0}
IsLogRefusal _ = ⊥
