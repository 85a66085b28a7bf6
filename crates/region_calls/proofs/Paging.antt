-- What a scan comes to that is read a page at a time.
use Rattle.std.proofs.Common.{◌≡◌, ℕ, List, Result, Ok, Err, IfOk, refl, ◌∙◌}
use mathlib.Core.List.{IsPrefix}
use Rattle.cell_model.specs.Cell.{Cell}
use Rattle.kv_cell.specs.declared.error.NoMemory.{NoMemory}
use Rattle.pass_calls.specs.log_service.declared.seats.LogSeat.{LogSeat}
use Rattle.region_model.specs.Journal.{Base, visible}
use Rattle.region_model.specs.Lines.{Line, edits_in, last_in}
use Rattle.region_state.specs.Versions.{Shown, seen_in}
use Rattle.pass_calls.specs.region_lock.Calls.{ScansAt}
use Rattle.pass_calls.proofs.region_lock_laws.Knowns.{at_region}
use Rattle.pass_calls.proofs.region_lock_laws.ScanLaws.{scan_ok, scan_none}
use Rattle.region_calls.specs.Answers.{begun_answer}

pub begun_at : (n : ℕ) (base : Base) (from to : List ℕ) (r r' : ℕ) (own own' shown shown' : List Line) (told told' : List ℕ) (seat : LogSeat) (v : Shown) (x : Result (List (ℕ × Cell)) NoMemory)
    → r' ≡ r → own' ≡ own → told' ≡ told → IsPrefix shown shown' → v.base ≡ base → v.cut ≡ shown' → v.point ≡ last_in base shown' → IfOk x (λ found. (q : ℕ) → found ≡ seen_in q v from to)
    → ScansAt base from to (begun_answer (last_in base shown') x) (at_region n r own shown told seat) (at_region n r' own' shown' told' seat)
begun_at n base from to r r' own own' shown shown' told told' seat v (Ok found) same mine spent later of cut point seen =
    let cells : found ≡ visible base.content (edits_in r' shown') (last_in base shown') from to = seen r' ∙ (λ i. visible (of i).content (edits_in r' (cut i)) (point i) from to) in
    scan_ok n base from to r r' own own' shown shown' told told' seat (last_in base shown') found same mine spent later refl cells
begun_at n base from to r r' own own' shown shown' told told' seat v (Err e) same mine spent later of cut point seen =
    scan_none n base from to r r' own own' shown shown' told told' seat same mine spent later
