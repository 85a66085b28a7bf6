-- Logs whose entries are flushed, or are to be copied.
use Rattle.std.specs.Prelude.{◌⊎◌, ℕ, List, Contains, Option}
use Rattle.log_model.specs.Entry.{Entry}
use Rattle.log_model.specs.Files.{Files, content}
use Rattle.recovery_laws.specs.Change.{HasText}
use Rattle.recovery_laws.specs.Laws.{IsFlushedEntry}
use Rattle.wal_split.specs.declared.job.EditsJob.{EditsJob}
use Rattle.wal_split.specs.Logs.{log_name}

abbrev pub LogsCovered : Files → List EditsJob → List ℕ → Type 0
LogsCovered files jobs logs = (n : ℕ) → Contains logs n → (es : List Entry) × (ended : Option ℕ) × HasText (log_name n) es ended (content files (log_name n))
    × ((e : Entry) → Contains es e → ((j : EditsJob) × Contains jobs j × Contains j.entries.items e) ⊎ IsFlushedEntry files e)
