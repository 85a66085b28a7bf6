-- What a scan comes to.
use Rattle.std.proofs.Common.{◌≡◌, ℕ, List, sym, ap, ◌∙◌}
use mathlib.Core.List.{IsPrefix}
use Rattle.cell_model.specs.Cell.{Cell}
use Rattle.region_model.specs.Journal.{Base, visible}
use Rattle.region_model.specs.Calls.{Answer, Scanned, ScanMemory}
use Rattle.region_model.specs.Lines.{Line, edits_in, last_in}
use Rattle.log_service.specs.declared.seats.LogSeat.{LogSeat}
use Rattle.region_lock.specs.Calls.{ScansAt}
use Rattle.region_lock.proofs.Knowns.{at_region, later_at, quiet_at, last_same, later_refl}

pub scan_at : (n : ℕ) (base : Base) (from to : List ℕ) (answer : Answer) (r r' : ℕ) (own own' shown shown' : List Line) (told told' : List ℕ) (seat : LogSeat)
    → r' ≡ r → own' ≡ own → told' ≡ told → IsPrefix shown shown'
    → ((p : ℕ) (cells : List (ℕ × Cell)) → answer ≡ Scanned p cells → (p ≡ last_in base shown') × (cells ≡ visible base.content (edits_in r' shown') p from to))
    → ScansAt base from to answer (at_region n r own shown told seat) (at_region n r' own' shown' told' seat)
scan_at n base from to answer r r' own own' shown shown' told told' seat same mine spent later scanned = record {
  later = later_at n r r' own own' shown shown' told told' seat seat same later (later_refl seat);
  own = quiet_at n r r' own own' shown shown' told told' seat seat same mine spent;
  cells = λ p cells is. ((scanned p cells is).0 ∙ sym (last_same base r' shown'), (scanned p cells is).1);
}

-- a scan that found these cells at this point
pub scan_ok : (n : ℕ) (base : Base) (from to : List ℕ) (r r' : ℕ) (own own' shown shown' : List Line) (told told' : List ℕ) (seat : LogSeat) (point : ℕ) (found : List (ℕ × Cell))
    → r' ≡ r → own' ≡ own → told' ≡ told → IsPrefix shown shown' → point ≡ last_in base shown' → found ≡ visible base.content (edits_in r' shown') point from to
    → ScansAt base from to (Scanned point found) (at_region n r own shown told seat) (at_region n r' own' shown' told' seat)
scan_ok n base from to r r' own own' shown shown' told told' seat point found same mine spent later last seen =
    scan_at n base from to (Scanned point found) r r' own own' shown shown' told told' seat same mine spent later
    (λ p cells is. let one : point ≡ p = cc is in let two : found ≡ cells = cc is in (sym one ∙ last, sym two ∙ seen ∙ ap (λ (k : ℕ). visible base.content (edits_in r' shown') k from to) one))

-- a scan without memory
pub scan_none : (n : ℕ) (base : Base) (from to : List ℕ) (r r' : ℕ) (own own' shown shown' : List Line) (told told' : List ℕ) (seat : LogSeat)
    → r' ≡ r → own' ≡ own → told' ≡ told → IsPrefix shown shown' → ScansAt base from to ScanMemory (at_region n r own shown told seat) (at_region n r' own' shown' told' seat)
scan_none n base from to r r' own own' shown shown' told told' seat same mine spent later =
    scan_at n base from to ScanMemory r r' own own' shown shown' told told' seat same mine spent later (λ p cells is. absurd (cc is))
