-- What a get is answered.
use Rattle.std.specs.Prelude.{◌≡◌, ℕ, ◌⊎◌, Result, Ok, Err}
use Rattle.kv_cell.specs.declared.error.NoMemory.{NoMemory}
use Rattle.mask_model.specs.Masked.{masked}
use Rattle.region_model.specs.Calls.{Answer, Scanned, ScanMemory}
use Rattle.handler_threads.specs.region_lock.declared.scan.ScanReply.{ScanReply}

-- After a scan of its row: what a reader of so many versions sees of the scan's cells, at its point; or it is out of memory.
abbrev pub IsGetOf : (versions : ℕ) → Result ScanReply NoMemory → Answer → Type 0
IsGetOf versions (Ok scan) get = (get ≡ ScanMemory) ⊎ (get ≡ Scanned scan.point (masked versions scan.cells))
IsGetOf versions (Err e) get = get ≡ ScanMemory
