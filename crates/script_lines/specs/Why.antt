-- What the refusal of a line says of its first fault.
use Rattle.std.specs.Prelude.{◌≡◌, Option, Some, None, Result, Ok, Err}
use Rattle.script_model.specs.Fields.{Why}
use Rattle.script_model.specs.Why.{why_of}
use Rattle.script_lines.specs.declared.faults.LineError.{LineError}
use Rattle.script_lines.specs.declared.faults.LineError.TheVariants.{Memory, Wrong}

abbrev pub IsFault : LineError → Option Why → Type 0
IsFault Memory first = Unit {0}
IsFault (Wrong y) first = first ≡ Some (why_of y)

-- what is answered has no fault, and a refusal tells the first, or memory
abbrev pub Tells : {X : Type 0} → Result X LineError → Option Why → Type 0
Tells (Ok x) first = first ≡ None
Tells (Err e) first = IsFault e first
