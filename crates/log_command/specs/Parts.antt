-- With which statuses the parts of the command end, and the frames that it writes.
use Rattle.std.specs.Prelude.{◌≡◌, List, map, ℕ}
use Rattle.std.specs.List.{AllByRecursion}
use Rattle.log_model.specs.Entry.{IsEntry, entry_frame}
use Rattle.script_model.specs.Calls.{Script as TheScript}
use Rattle.log_command.specs.Logged.{entries_in}
use Rattle.command_base.specs.declared.status.Status.{Status}
use Rattle.command_base.specs.declared.status.Status.TheVariants.{Done, Memory, Usage, DiskFault, SinkFault, Damaged, NumbersSpent, NotEmpty, NoPosition}

-- of looking whether the store is empty
abbrev pub IsStoreRefusal : Status → Type 0
IsStoreRefusal Memory = Unit {0}
IsStoreRefusal DiskFault = Unit {0}
IsStoreRefusal (NotEmpty name) = Unit {0}
IsStoreRefusal _ = ⊥

-- of writing a log
abbrev pub IsWritingEnd : Status → Type 0
IsWritingEnd Done = Unit {0}
IsWritingEnd DiskFault = Unit {0}
IsWritingEnd SinkFault = Unit {0}
IsWritingEnd _ = ⊥

-- of a right script
abbrev pub IsScriptEnd : Status → Type 0
IsScriptEnd Done = Unit {0}
IsScriptEnd Memory = Unit {0}
IsScriptEnd DiskFault = Unit {0}
IsScriptEnd SinkFault = Unit {0}
IsScriptEnd (NotEmpty name) = Unit {0}
IsScriptEnd _ = ⊥

-- of writing a log for a script
abbrev pub IsLogEnd : Status → Type 0
IsLogEnd Usage = ⊥
IsLogEnd (Damaged damage) = ⊥
IsLogEnd (NumbersSpent region last) = ⊥
IsLogEnd (NoPosition file has) = ⊥
IsLogEnd _ = Unit {0}

-- the frames of a script's puts
pub record IsFramesOf (frames : List (List ℕ)) (script : TheScript) : Type 0 where
  pub spelled : frames ≡ map entry_frame (entries_in script)
  pub entries : AllByRecursion IsEntry (entries_in script)
