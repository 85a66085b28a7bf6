-- What is known of a region, before and after a call.
use Rattle.std.proofs.Common.{◌≡◌, ℕ, zero, suc, ◌+◌, ◌-◌, ◌<◌, ◌≤◌, Bool, true, false, true≢false, List, [], ◌∷◌, Contains, refl, sym, ap, ◌∙◌, subst, arith}
use mathlib.Core.List.{IsPrefix}
use Rattle.cell_model.specs.Lists.{IsPrefix as Begins}
use Rattle.region_model.specs.Journal.{Base, Edit, last_of}
use Rattle.region_model.specs.Lines.{Line, edits_in, last_in}
use Rattle.region_model.proofs.LineLaws.{edits_in-append, length-edits_in}
use Rattle.log_service.specs.declared.seats.LogSeat.{LogSeat}
use Rattle.log_service.specs.Numbers.{seen_synced, seen_stored, seen_closed}
use Rattle.log_service.specs.Places.{IsLaterSeat}
use Rattle.server_model.specs.Pass.{Known, IsLaterOf, IsQuiet}
use Rattle.server_model.proofs.JournalLaws.{contains_cons}
use Rattle.region_lock.specs.Parts.{AreBelow}

abbrev pub at_region : ℕ → ℕ → List Line → List Line → List ℕ → LogSeat → Known
at_region n r own shown told seat = record {
  own = edits_in r own;
  shown = edits_in r shown;
  spent = told;
  synced = seen_synced seat.device.knows r;
  stored = seen_stored n seat.device.knows r;
  closed = seen_closed n seat.device.knows r;
}

-- lines of which others are a beginning, as edits
pub edits_begin : (r r' : ℕ) (xs ys : List Line) → r' ≡ r → IsPrefix xs ys → Begins (edits_in r xs) (edits_in r' ys)
edits_begin r r' xs ys same p = (edits_in r p.0, ap (λ (k : ℕ). edits_in k ys) same ∙ ap (edits_in r) (sym p.1) ∙ edits_in-append r xs p.0)

pub last_same : (base : Base) (r : ℕ) (xs : List Line) → last_of base.last (edits_in r xs) ≡ last_in base xs
last_same base r xs = ap (λ (n : ℕ). base.last + n) (length-edits_in r xs)

-- what is below a number among lines is so among edits
pub below_edits : (r n : ℕ) (xs : List Line) → AreBelow n xs → (e : Edit) → Contains (edits_in r xs) e → e.entry.number < n
below_edits r n [] below e c = let lt = c.1 in absurd (omega arith)
below_edits r n (x ∷ xs) below e (zero, lt, is) = let first : x.number < n = below x (0, omega arith, refl) in let same : x.number ≡ e.entry.number = ap (λ (d : Edit). d.entry.number) is in omega arith
below_edits r n (x ∷ xs) below e (suc k, lt, is) = below_edits r n xs (λ y c. below y (contains_cons x xs y c)) e (k, omega (arith, lt), is)

-- nothing seen is lost
pub later_at : (n r r' : ℕ) (own own' shown shown' : List Line) (told told' : List ℕ) (seat seat' : LogSeat) → r' ≡ r → IsPrefix shown shown' → IsLaterSeat seat seat'
    → IsLaterOf (at_region n r own shown told seat) (at_region n r' own' shown' told' seat')
later_at n r r' own own' shown shown' told told' seat seat' same later words = record {
  shown = edits_begin r r' shown shown' same later;
  synced = subst (λ (k : ℕ). seen_synced seat.device.knows r ≤ seen_synced seat'.device.knows k) (sym same) (words.words (r - 1));
  stored = subst (λ (k : ℕ). seen_stored n seat.device.knows r ≤ seen_stored n seat'.device.knows k) (sym same) (words.words (n + r - 1));
  closed = subst (λ (k : ℕ). seen_closed n seat.device.knows r ≤ seen_closed n seat'.device.knows k) (sym same) (words.words (n + n + r - 1));
}

-- the handler's own edits and the numbers told as spent are the same
pub quiet_at : (n r r' : ℕ) (own own' shown shown' : List Line) (told told' : List ℕ) (seat seat' : LogSeat) → r' ≡ r → own' ≡ own → told' ≡ told
    → IsQuiet (at_region n r own shown told seat) (at_region n r' own' shown' told' seat')
quiet_at n r r' own own' shown shown' told told' seat seat' same mine spent = record { own = λ i. edits_in (same i) (mine i); spent = spent }

pub later_refl : (seat : LogSeat) → IsLaterSeat seat seat
later_refl seat = record { words = λ i. omega arith; fault = λ e. (e, λ i. refl); looks = omega arith }

pub not_before : (a b : Bool) → (a ≡ true → b ≡ true) → b ≡ false → a ≡ false
not_before true b f e = absurd (true≢false (sym (f refl) ∙ e))
not_before false b f e = refl
