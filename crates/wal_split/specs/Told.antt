-- What a split reports.
use Rattle.std.specs.Prelude.{ℕ, ◌≡◌, List, length, Contains, AllPairs}
use Rattle.std.specs.FinMap.{keys}
use Rattle.log_model.specs.declared.name.Name.{Name}
use Rattle.log_model.specs.declared.name.NameKind.TheVariants as kinds
use Rattle.log_model.specs.Entry.{Entry}
use Rattle.log_model.specs.Files.{Files, IsLogFile}
use Rattle.wal_split.specs.declared.planning.Plan.{Plan}
use Rattle.wal_split.specs.Numbers.{logs_of}
use Rattle.wal_split.specs.Unflushed.{IsUnflushedEntry}

-- how many logs there are
abbrev pub log_count : Files → ℕ
log_count files = length (logs_of (keys files))

-- so many entries of logs have a cell that is not flushed, each counted once
pub record Counts (files : Files) (n : ℕ) : Type 0 where
  pub entries : List Entry
  pub count : length entries ≡ n
  pub apart : AllPairs (λ d e. d ≡ e → ⊥) entries
  pub each : (e : Entry) → Contains entries e → ((name : Name) × (es : List Entry) × (name.kind ≡ kinds.Log) × IsLogFile files name es × Contains es e) × IsUnflushedEntry files e
  pub all : (e : Entry) (name : Name) (es : List Entry) → name.kind ≡ kinds.Log → IsLogFile files name es → Contains es e → IsUnflushedEntry files e → Contains entries e

-- the plan has the numbers of all logs, and counts those entries
pub record IsCounted (files : Files) (plan : Plan) : Type 0 where
  pub logs : length plan.logs.items ≡ log_count files
  pub entries : Counts files plan.entries
