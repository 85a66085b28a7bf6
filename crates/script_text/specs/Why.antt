-- What the refusal of a script says of its first fault.
use Rattle.std.specs.Prelude.{◌≡◌, ℕ, Option, Some, None, Result, Ok, Err}
use Rattle.script_model.specs.Fields.{Why}
use Rattle.script_model.specs.Why.{why_of}
use Rattle.script_text.specs.declared.faults.ParseRefusal.{ParseRefusal}
use Rattle.script_text.specs.declared.faults.ParseRefusal.TheVariants as refusal

abbrev pub IsLineFault : ParseRefusal → Option (ℕ × Why) → Type 0
IsLineFault refusal.Memory first = Unit {0}
IsLineFault (refusal.Fault line y) first = first ≡ Some (line, why_of y)

-- what is answered has no fault, and a refusal tells the first line with one and its cause, or memory
abbrev pub TellsLine : {X : Type 0} → Result X ParseRefusal → Option (ℕ × Why) → Type 0
TellsLine (Ok x) first = first ≡ None
TellsLine (Err e) first = IsLineFault e first
