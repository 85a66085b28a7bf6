-- What the reading of the log finds.
use Rattle.std.specs.Prelude.{◌≡◌, ℕ, ◌⊎◌, List, Option, Some, None}
use Rattle.log_model.specs.declared.name.NameKind.TheVariants as kinds
use Rattle.log_model.specs.Files.{Files, IsAbsent}
use Rattle.script_model.specs.Outputs.{dump_text}
use Rattle.wal_dump.specs.Kinds.{kind_word}
use Rattle.command_base.specs.LogFiles.{log_name, IsFound}
use Rattle.dump_command.specs.Dumped.{IsDumped, old_name, none_text}
use Rattle.dump_command.specs.declared.command.Found.{Found}

-- this file of the store, or neither is there
abbrev pub HasFound : Files → ℕ → Option Found → Type 0
HasFound files n None = IsAbsent files (log_name n) × IsAbsent files (old_name n)
HasFound files n (Some found) = IsDumped files n found.name × IsFound files found.name found.text.entries found.text.ended

-- the old log, or there is none
abbrev pub HasOldFound : Files → ℕ → Option Found → Type 0
HasOldFound files n None = IsAbsent files (old_name n)
HasOldFound files n (Some found) = (found.name ≡ old_name n) × IsFound files found.name found.text.entries found.text.ended

-- it is a log or an old log of that number
abbrev pub IsOfNumber : ℕ → Option Found → Type 0
IsOfNumber n None = Unit {0}
IsOfNumber n (Some found) = ((found.name.kind ≡ kinds.Log) ⊎ (found.name.kind ≡ kinds.Old)) × (found.name.number ≡ n)

-- what is printed of it
abbrev pub found_text : Option Found → List ℕ
found_text None = none_text
found_text (Some found) = dump_text (kind_word found.name.kind) found.name.number found.text.entries found.text.ended
