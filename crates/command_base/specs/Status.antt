-- The statuses of the program, and the line that refuses with each.
use Rattle.std.specs.Prelude.{◌≡◌, ℕ, ◌⊎◌, List, ◌∷◌, Contains, Option, Some, None}
use Rattle.std.specs.FinMap.{keys}
use Rattle.log_model.specs.declared.name.Name.{Name}
use Rattle.log_model.specs.declared.damage.Damage.{Damage}
use Rattle.log_model.specs.declared.damage.Damage.TheVariants as damages
use Rattle.log_model.specs.Files.{Files}
use Rattle.script_model.specs.Fields.{Why}
use Rattle.script_model.specs.Outputs.{refused_memory, refused_usage, refused_script, refused_source, refused_disk, refused_damaged, refused_disagree, refused_store}
use Rattle.script_model.specs.Why.{why_of}
use Rattle.report_text.specs.Refusals.{refused_position}
use Rattle.command_base.specs.declared.status.Status.{Status}
use Rattle.command_base.specs.declared.status.Status.TheVariants as ends

-- the exit status of the program
abbrev pub exit_status : Status → ℕ
exit_status ends.Done = 0
exit_status ends.Memory = 1
exit_status ends.Usage = 2
exit_status (ends.Script line why) = 3
exit_status ends.SourceFault = 4
exit_status ends.DiskFault = 5
exit_status ends.SinkFault = 6
exit_status (ends.Damaged damage) = 7
exit_status (ends.NumbersSpent region last) = 8
exit_status (ends.NotEmpty name) = 9
exit_status (ends.NoPosition file has) = 10

-- ---- refusal lines

-- the one line that a refusal writes
abbrev pub refusal_line : Status → Option (List ℕ)
refusal_line ends.Memory = Some refused_memory
refusal_line ends.Usage = Some refused_usage
refusal_line (ends.Script line why) = Some (refused_script line (why_of why))
refusal_line ends.SourceFault = Some refused_source
refusal_line ends.DiskFault = Some refused_disk
refusal_line (ends.Damaged (damages.Bytes name at)) = Some (refused_damaged name at)
refusal_line (ends.Damaged (damages.Two first second region number)) = Some (refused_disagree first second region number)
refusal_line (ends.NotEmpty name) = Some (refused_store name)
refusal_line (ends.NoPosition file has) = Some (refused_position file has)
refusal_line ends.Done = None
refusal_line ends.SinkFault = None
refusal_line (ends.NumbersSpent region last) = None

-- Statuses that come with that line alone. Where the disk failed a command may have printed something else, and before there was no
-- such position it may have shipped entries.
abbrev pub IsRefusal : Status → Type 0
IsRefusal ends.Memory = Unit {0}
IsRefusal ends.Usage = Unit {0}
IsRefusal (ends.Script line why) = Unit {0}
IsRefusal ends.SourceFault = Unit {0}
IsRefusal (ends.Damaged damage) = Unit {0}
IsRefusal (ends.NotEmpty name) = Unit {0}
IsRefusal (ends.NoPosition file has) = ⊥
IsRefusal ends.Done = ⊥
IsRefusal ends.DiskFault = ⊥
IsRefusal ends.SinkFault = ⊥
IsRefusal (ends.NumbersSpent region last) = ⊥

-- ---- what comes only where

-- the first wrong line that it tells is one
abbrev pub IsScriptFault : Status → (ℕ → Why → Type 0) → Type 0
IsScriptFault (ends.Script line why) P = P line (why_of why)
IsScriptFault _ P = Unit {0}

-- it names the first file there
abbrev pub IsNotEmpty : Status → Files → Type 0
IsNotEmpty (ends.NotEmpty name) files = (rest : List Name) × (keys files ≡ name ∷ rest)
IsNotEmpty _ files = Unit {0}

-- such a command may tell that the store isn't empty
abbrev pub IfNotEmpty : Status → Type 0 → Type 0
IfNotEmpty (ends.NotEmpty name) P = P
IfNotEmpty _ P = Unit {0}

-- the damage that it tells is one
abbrev pub IsDamageOf : Status → (Damage → Type 0) → Type 0
IsDamageOf (ends.Damaged damage) P = P damage
IsDamageOf _ P = Unit {0}

-- where the store is damaged
abbrev pub IfDamaged : Status → Type 0 → Type 0
IfDamaged (ends.Damaged damage) P = P
IfDamaged _ P = Unit {0}

-- where the log of a position has too few entries, which are so many
abbrev pub IsNoPositionOf : Status → (ℕ → ℕ → Type 0) → Type 0
IsNoPositionOf (ends.NoPosition file has) P = P file has
IsNoPositionOf _ P = Unit {0}

-- ---- what comes exactly where

-- it tells this line and this cause
abbrev pub IsScriptAt : Status → ℕ → Why → Type 0
IsScriptAt (ends.Script at y) line why = (at ≡ line) × (why_of y ≡ why)
IsScriptAt _ line why = ⊥

-- this status, or one that is decided before it: out of memory always is
abbrev pub IsOrEarlier : Status → Status → List Status → Type 0
IsOrEarlier status it earlier = (status ≡ it) ⊎ Contains (ends.Memory ∷ earlier) status

-- ---- completeness

-- done, or memory was refused
abbrev pub IsComplete : Status → Type 0
IsComplete ends.Done = Unit {0}
IsComplete ends.Memory = Unit {0}
IsComplete _ = ⊥

-- ---- reading a script

-- the statuses with which it is refused
abbrev pub IsInputRefusal : Status → Type 0
IsInputRefusal ends.Memory = Unit {0}
IsInputRefusal (ends.Script line why) = Unit {0}
IsInputRefusal ends.SourceFault = Unit {0}
IsInputRefusal _ = ⊥

-- ---- a command without a script

-- how it ends
abbrev pub IsReadingEnd : Status → Type 0
IsReadingEnd ends.Done = Unit {0}
IsReadingEnd ends.Memory = Unit {0}
IsReadingEnd ends.DiskFault = Unit {0}
IsReadingEnd ends.SinkFault = Unit {0}
IsReadingEnd (ends.Damaged damage) = Unit {0}
IsReadingEnd _ = ⊥

-- how its output ends
abbrev pub IsPrintEnd : Status → Type 0
IsPrintEnd ends.Done = Unit {0}
IsPrintEnd ends.Memory = Unit {0}
IsPrintEnd ends.SinkFault = Unit {0}
IsPrintEnd _ = ⊥
