-- A scan of a row, and what a get makes of it.
use Rattle.std.proofs.Common.{ℕ, List, Result, Ok, Err, IfOk, filter, refl, sym, subst}
use Rattle.kv_cell.specs.declared.error.NoMemory.{NoMemory}
use Rattle.cell_model.specs.Merge.{IsRising}
use Rattle.mem_segments.proofs.Resuming.{rising_range}
use Rattle.region_model.specs.Journal.{put_edits, cut_at, is_done}
use Rattle.region_model.specs.Calls.{Answer, Raw, Newest, Scanned}
use Rattle.handler_threads.specs.region_lock.declared.scan.ScanReply.{ScanReply}
use Rattle.handler_threads.specs.region_calls.Answers.{scan_answer}
use Rattle.server_model.specs.Pass.{Pass, Naming}
use Rattle.server_model.specs.Steps.{Scans}
use Rattle.server_model.proofs.GetLaws.{got_nothing, got_of}
use Rattle.embedded.specs.Settings.{IsMaskOf}

module _ (name : Naming) (r : ℕ) (from to : List ℕ) (old new : Pass) where
  -- a scan's cells are in order
  pub scan_rises : (x : Result ScanReply NoMemory) → Scans name Raw r from to (scan_answer x) old new → IfOk x (λ reply. IsRising reply.cells)
  scan_rises (Ok reply) s =
      subst IsRising (sym (s.cells reply.point reply.cells refl).1)
      (rising_range from to (put_edits (name.bases r).content (filter (λ e. is_done e.outcome) (cut_at reply.point (new.known r).shown))))
  scan_rises (Err e) s = tt

  pub got_answer : (versions : ℕ) (x get : Result ScanReply NoMemory) → Scans name Raw r from to (scan_answer x) old new → IsMaskOf versions x get
      → Scans name (Newest versions) r from to (scan_answer get) old new
  got_answer versions (Ok scan) (Ok get) s is =
      subst (λ (a : Answer). Scans name (Newest versions) r from to a old new) (λ i. Scanned ((sym is.0) i) ((sym is.1) i)) (got_of name r from to old new versions scan.point scan.cells s)
  got_answer versions (Ok scan) (Err e) s is = got_nothing name r from to old new (Newest versions) (scan_answer (Ok scan)) s
  got_answer versions (Err e) get s is =
      subst (λ (x : Result ScanReply NoMemory). Scans name (Newest versions) r from to (scan_answer x) old new) (sym is) (got_nothing name r from to old new (Newest versions) (scan_answer (Err e)) s)
