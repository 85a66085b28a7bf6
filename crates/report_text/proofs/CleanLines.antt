-- The lines of a report hold words alone.
use Rattle.std.proofs.Common.{◌≡◌, ℕ, ◌<◌, ◌^◌, Bool, true, false, ◌&&◌, List, [], ◌∷◌, ◌++◌, length, codes, Some, None, refl, arith}
use Rattle.std.specs.List.{flat_map, AllByRecursion, list_all}
use Rattle.std.specs.Fmt.{decimal}
use Rattle.cell_model.specs.Order.{NumberedCell}
use Rattle.region_model.specs.Calls.{Answer, PutOk, PutMemory, PutFault, PutSpent, Scanned, ScanMemory, FlushOk, FlushNothing, FlushBusy, FlushFault, FlushMemory, RollOk, RollNothing, RollFault, RollMemory}
use Rattle.script_model.specs.Report.{EditLine, RegionLine, ReplyLine, Report, tags_word, read_name, answer_words, cells_told, outcome_name}
use Rattle.report_text.specs.Reading.{AreNumbers, numbers_of, IsNumberedCell, IsEditLine, IsRegionLine, IsReplyLine, IsReport}
use Rattle.report_text.proofs.WordLaws.{is_word, AreLines}
use Rattle.report_text.proofs.TokenLaws.{decimal_word, printed_word, kind_word}
use Rattle.report_text.proofs.Runs.{Words}
use Rattle.report_text.proofs.Lines.{cell_part, edit_part, region_part, reply_part, end_part, report_lines}

lines-append : (xs ys : List Words) → AreLines xs → AreLines ys → AreLines (xs ++ ys)
lines-append [] ys hx hy = hy
lines-append (x ∷ xs) ys hx hy = (hx.0, lines-append xs ys hx.1 hy)

lines_of_parts : {X : Type 0} (part : X → List Words) (P : X → Type 0) → ((x : X) → P x → AreLines (part x)) → (xs : List X) → AllByRecursion P xs → AreLines (flat_map part xs)
lines_of_parts part P h [] hs = tt
lines_of_parts part P h (x ∷ xs) hs = lines-append (part x) (flat_map part xs) (h x hs.0) (lines_of_parts part P h xs hs.1)

-- two tests that hold
both_hold : (a b : Bool) → a ≡ true → b ≡ true → a && b ≡ true
both_hold a b ha hb = rw (ha, hb) refl

tags_clean : (tags : List ℕ) → list_all is_word (tags_word tags) ≡ true
tags_clean [] = refl
tags_clean (b ∷ bs) = rw (printed_word (b ∷ bs)) refl

cell_clean : (x : NumberedCell) → IsNumberedCell x → AreLines (cell_part x)
cell_clean x h =
    let ts : x.1.ts < 2 ^ 64 = omega (arith, h.cell.ts) in
    (rw (decimal_word x.0 h.number, printed_word x.1.row, printed_word x.1.family, printed_word x.1.qualifier, decimal_word x.1.ts ts, kind_word x.1.kind, printed_word x.1.value, tags_clean x.1.tags) refl, tt)

outcome_word : (done : Bool) → is_word (outcome_name done) ≡ true
outcome_word true = refl
outcome_word false = refl

edit_clean : (e : EditLine) → IsEditLine e → AreLines (edit_part e)
edit_clean e h = (rw (decimal_word e.number h.0, decimal_word e.handler h.1.0, decimal_word e.call h.1.1.0, outcome_word e.done) refl, tt)

region_clean : (r : RegionLine) → IsRegionLine r → AreLines (region_part r)
region_clean r h = (
  rw (decimal_word r.region h.numbers.0, decimal_word r.last h.numbers.1.0, decimal_word r.count h.numbers.1.1.0) refl,
  lines_of_parts edit_part IsEditLine edit_clean r.edits h.edits,
)

one : (n : ℕ) → n < 2 ^ 64 → list_all is_word (decimal n ∷ []) ≡ true
one n h = rw (decimal_word n h) refl

two : (n m : ℕ) → n < 2 ^ 64 → m < 2 ^ 64 → list_all is_word (decimal n ∷ decimal m ∷ []) ≡ true
two n m h i = both_hold (is_word (decimal n)) (list_all is_word (decimal m ∷ [])) (decimal_word n h) (one m i)

read_clean : (got : Bool) (words : List (List ℕ)) → list_all is_word words ≡ true → list_all is_word (read_name got ∷ words) ≡ true
read_clean true words h = h
read_clean false words h = h

answer_clean : (got : Bool) (a : Answer) → AreNumbers (numbers_of a) → list_all is_word (answer_words got a) ≡ true
answer_clean got (PutOk n) h = one n h.0
answer_clean got (PutMemory None) h = refl
answer_clean got (PutMemory (Some n)) h = one n h.0
answer_clean got (PutFault None) h = refl
answer_clean got (PutFault (Some n)) h = one n h.0
answer_clean got (PutSpent n) h = one n h.0
answer_clean got (Scanned p cells) h = read_clean got (decimal p ∷ decimal (length cells) ∷ []) (two p (length cells) h.0 h.1.0)
answer_clean got ScanMemory h = read_clean got (codes "memory" ∷ []) refl
answer_clean got (FlushOk n) h = one n h.0
answer_clean got (FlushNothing n) h = one n h.0
answer_clean got (FlushBusy n m) h = two n m h.0 h.1.0
answer_clean got FlushFault h = refl
answer_clean got FlushMemory h = refl
answer_clean got (RollOk n m) h = two n m h.0 h.1.0
answer_clean got (RollNothing n) h = one n h.0
answer_clean got RollFault h = refl
answer_clean got RollMemory h = refl

reply_clean : (r : ReplyLine) → IsReplyLine r → AreLines (reply_part r)
reply_clean r h = (
  rw (decimal_word r.handler h.numbers.0, decimal_word r.call h.numbers.1.0) (answer_clean r.got r.answer h.answer),
  lines_of_parts cell_part IsNumberedCell cell_clean (cells_told r.answer) h.cells,
)

pub report_clean : (r : Report) → IsReport r → AreLines (report_lines r)
report_clean r h = (
  one 1 (omega arith),
  lines-append (flat_map region_part r.regions) (flat_map reply_part r.replies ++ end_part r.status) (lines_of_parts region_part IsRegionLine region_clean r.regions h.regions)
      (lines-append (flat_map reply_part r.replies) (end_part r.status) (lines_of_parts reply_part IsReplyLine reply_clean r.replies h.replies) (one r.status h.status, tt)),
)
