-- What calls answered, as a report says it, and by what their pass knows.
use Rattle.std.specs.Prelude.{ℕ, List, Result, Ok, Err}
use Rattle.cell_model.specs.Cell.{Cell}
use Rattle.kv_cell.specs.declared.error.NoMemory.{NoMemory}
use Rattle.region_model.specs.Calls.{Answer, Scanned, ScanMemory}
use Rattle.region_model.specs.Journal.{last_of}
use Rattle.server_model.specs.Pass.{Naming, Pass}
pub use Rattle.pass_calls.specs.region_lock.Answers.{is_sync, put_answer, scan_answer, flush_answer, roll_answer}

-- the last point of a region that a pass has seen
abbrev pub point_seen : Naming → ℕ → Pass → ℕ
point_seen name r p = last_of (name.bases r).last (p.known r).shown

-- a scan at this point, of which all cells are still to be read
abbrev pub begun_answer : ℕ → Result (List (ℕ × Cell)) NoMemory → Answer
begun_answer point (Ok cells) = Scanned point cells
begun_answer point (Err e) = ScanMemory
