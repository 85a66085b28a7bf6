-- Gets on a group's server, by a scan of the row.
use Rattle.std.proofs.Common.{◌≡◌, ℕ, List, [], ◌∷◌, ◌++◌, Result, subst}
use Rattle.kv_cell.specs.declared.error.NoMemory.{NoMemory}
use Rattle.region_model.specs.Calls.{Answer, Raw, Newest}
use Rattle.server_model.specs.Pass.{Pass, Naming}
use Rattle.server_model.specs.Steps.{Scans}
use Rattle.group_servers.specs.region_lock.declared.scan.ScanReply.{ScanReply}
use Rattle.group_servers.specs.region_calls.Answers.{scan_answer}
use Rattle.script_handlers.specs.Getting.{IsGetOf}
use Rattle.script_handlers.proofs.GetLaws.{got_answer}

-- what is made of the scan that begins at the row and ends after it
pub row_got : (name : Naming) (r : ℕ) (row from to : List ℕ) (old new : Pass) (versions : ℕ) (x : Result ScanReply NoMemory) (get : Answer) → from ≡ row → to ≡ row ++ 0 ∷ []
    → Scans name Raw r from to (scan_answer x) old new → IsGetOf versions x get → Scans name (Newest versions) r row (row ++ 0 ∷ []) get old new
row_got name r row from to old new versions x get begins ends scanned is =
    subst (λ (l : List ℕ). Scans name (Newest versions) r row l get old new) ends
    (subst (λ (l : List ℕ). Scans name (Newest versions) r l to get old new) begins (got_answer name r from to old new versions x get scanned is))
