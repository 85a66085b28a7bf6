-- Refusals that tell nothing of the files.
use Rattle.std.specs.Prelude.{◌≡◌, ◌⊎◌, ℕ, List}
use Rattle.log_model.specs.declared.name.Name.{Name}
use Rattle.log_model.specs.LogText.{IsDamaged}
use Rattle.log_model.specs.Files.{key_of}
use Rattle.disk_images.specs.declared.disk.NamesError.{NamesError}
use Rattle.disk_images.specs.declared.disk.NamesError.TheVariants as names_errors
use Rattle.file_base.specs.declared.error.ReadRefusal.{ReadRefusal}
use Rattle.file_base.specs.declared.error.ReadRefusal.TheVariants as read_refusals
use Rattle.log_tail.specs.declared.refusal.TailRefusal.{TailRefusal}
use Rattle.log_tail.specs.declared.refusal.TailRefusal.TheVariants as refusals

-- a refusal of the list of names, told of a tail
abbrev pub failure_of : NamesError → TailRefusal
failure_of names_errors.Failed = refusals.DiskFault
failure_of names_errors.Memory = refusals.Memory

-- memory or the disk failed
abbrev pub IsFailure : TailRefusal → Type 0
IsFailure refusal = (refusal ≡ refusals.Memory) ⊎ (refusal ≡ refusals.DiskFault)

-- a file's refusal, told of a tail
abbrev pub refusal_of : ReadRefusal → Name → TailRefusal
refusal_of read_refusals.Memory name = refusals.Memory
refusal_of read_refusals.DiskFault name = refusals.DiskFault
refusal_of (read_refusals.Damaged at) name = refusals.Damaged name at

-- how the reading of a file with these bytes is refused
abbrev pub IsReadingRefusal : Name → List ℕ → TailRefusal → Type 0
IsReadingRefusal name bytes (refusals.Damaged damaged at) = (damaged ≡ name) × IsDamaged (key_of name) bytes at
IsReadingRefusal name bytes refusals.Memory = Unit {0}
IsReadingRefusal name bytes refusals.DiskFault = Unit {0}
IsReadingRefusal name bytes (refusals.NoPosition file has) = ⊥
