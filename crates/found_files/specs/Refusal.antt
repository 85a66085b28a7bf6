-- Why a store cannot be opened.
use Rattle.std.specs.Prelude.{◌≡◌, ℕ, Result, Ok, Err}
use Rattle.log_model.specs.declared.name.Name.{Name}
use Rattle.log_model.specs.declared.damage.Damage.{Damage}
use Rattle.log_model.specs.declared.damage.Damage.TheVariants as damages
use Rattle.log_model.specs.Files.{Files, IsSound}
use Rattle.log_model.specs.Damage.{HasDamage}
use Rattle.disk_images.specs.declared.disk.NamesError.{NamesError}
use Rattle.disk_images.specs.declared.disk.NamesError.TheVariants as names_errors
use Rattle.found_files.specs.declared.refusal.SplitRefusal.{SplitRefusal}
use Rattle.found_files.specs.declared.refusal.SplitRefusal.TheVariants as refusals

abbrev pub refusal_of : NamesError → SplitRefusal
refusal_of names_errors.Failed = refusals.DiskFault
refusal_of names_errors.Memory = refusals.Memory

-- where the answer is damage, P holds of it
abbrev pub IfDamage : {T : Type 0} → Result T SplitRefusal → (Damage → Type 0) → Type 0
IfDamage (Ok x) P = Unit {0}
IfDamage (Err (refusals.Damaged damage)) P = P damage
IfDamage (Err refusals.Memory) P = Unit {0}
IfDamage (Err refusals.DiskFault) P = Unit {0}

-- the bytes of this file are damaged, this is the place, and the files aren't sound
abbrev pub IsDamageAt : Files → Name → Damage → Type 0
IsDamageAt files name damage = (at : ℕ) × (damage ≡ damages.Bytes name at) × HasDamage files name at × (¬ IsSound files)
