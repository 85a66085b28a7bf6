-- What the reading of the log finds.
use Rattle.std.specs.Prelude.{◌≡◌, ℕ, ◌⊎◌, List, [], Option}
use Rattle.log_model.specs.Entry.{Entry}
use Rattle.log_model.specs.Files.{Files, IsAbsent}
use Rattle.command_base.specs.LogFiles.{log_name, IsFound}

-- log 1 has these entries, or isn't there and has none
abbrev pub HasLogEntries : Files → List Entry → Type 0
HasLogEntries files es = ((ended : Option ℕ) × IsFound files (log_name 1) es ended) ⊎ (IsAbsent files (log_name 1) × (es ≡ []))
