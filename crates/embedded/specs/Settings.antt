-- What the calls of a session leave as it is, and what holds of its parts.
use Rattle.std.specs.Prelude.{◌≡◌, ℕ, ◌+◌, ◌<◌, ◌≤◌, ◌^◌, Result, Ok, Err}
use Rattle.kv_cell.specs.declared.error.NoMemory.{NoMemory}
use Rattle.mask_model.specs.Masked.{masked}
use Rattle.region_model.specs.Journal.{Caller}
use Rattle.handler_threads.specs.region_lock.declared.scan.ScanReply.{ScanReply}
use Rattle.server_model.specs.Pass.{Naming, Pass, IsLater}
use Rattle.handler_threads.specs.log_service.Places.{ServiceId}
use Rattle.embedded.specs.Flushers.{MayAllFlush}

-- Where a session stands.
pub record Setting : Type 0 where
  -- which server's it is
  pub place : ServiceId
  -- of each put's entry, in milliseconds
  pub time : ℕ
  -- what its pass knew when it was dealt out
  pub first : Pass

abbrev pub setting_of : ServiceId → ℕ → Pass → Setting
setting_of place time first = record { place = place; time = time; first = first }

-- the next call of the pass's handler
abbrev pub next_call : Pass → Caller
next_call p = record { handler = p.handler; call = p.calls + 1 }

-- what is kept beside a pass is right: its server's regions, its calls, and the pass that it was
pub record IsSetFor (name : Naming) (time regions calls : ℕ) (first now : Pass) : Type 0 where
  pub later : IsLater first now
  pub calls_are : calls ≡ now.calls
  pub regions_are : regions ≡ name.regions
  pub handler : (1 ≤ now.handler) × (now.handler ≤ name.handlers)
  pub time_fits : time < 2 ^ 63
  pub flushers : MayAllFlush name

-- what a reader of so many versions sees of a scan, at its point; or it is out of memory
abbrev pub IsMaskOf : ℕ → Result ScanReply NoMemory → Result ScanReply NoMemory → Type 0
IsMaskOf versions (Err e) get = get ≡ Err e
IsMaskOf versions (Ok scan) (Err e) = Unit {0}
IsMaskOf versions (Ok scan) (Ok get) = (get.point ≡ scan.point) × (get.cells ≡ masked versions scan.cells)
