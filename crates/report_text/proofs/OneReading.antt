-- A report has one reading: its text is split into lines, its lines into parts, and each part is of one value.
use Rattle.std.proofs.Common.{◌≡◌, ◌≢◌, ℕ, Bool, true, false, IsTrue, List, [], ◌∷◌, ◌++◌, length, Option, Some, None, refl, sym, ap, ◌∙◌, arith}
use Rattle.std.specs.List.{flat_map}
use Rattle.std.specs.Fmt.{decimal}
use Rattle.std.proofs.lemmas.Fmt.{decimal_injective}
use Rattle.cell_model.specs.Cell.{is_kind}
use Rattle.cell_model.specs.Order.{NumberedCell}
use Rattle.script_model.specs.Text.{printed, token_of}
use Rattle.script_model.specs.Fields.{code_of}
use Rattle.script_model.specs.Report.{EditLine, RegionLine, ReplyLine, Report, kind_name, tags_word, answer_words, cells_told, outcome_name}
use Rattle.kv_cell.specs.Laws.{AreBytes}
use Rattle.report_text.specs.Reading.{IsNumberedCell, IsEditLine, IsRegionLine, IsReplyLine, IsReport, HasOneReading}
use Rattle.report_text.proofs.TokenLaws.{token_back, kind_back}
use Rattle.report_text.proofs.Runs.{Words, top, AreParts, runs_apart, follows}
use Rattle.report_text.proofs.Lines.{cell_part, edit_part, region_part, reply_part, end_part, report_lines, text_by_lines}
use Rattle.report_text.proofs.WordLaws.{lines_one}
use Rattle.report_text.proofs.CleanLines.{report_clean}
use Rattle.report_text.proofs.AnswerWords.{gets_apart, answers_apart}

bytes_of_token : Option (List ℕ) → List ℕ
bytes_of_token None = []
bytes_of_token (Some bs) = bs

tokens_apart : (a b : List ℕ) → AreBytes a → AreBytes b → printed a ≡ printed b → a ≡ b
unfolding bytes_of_token
tokens_apart a b ha hb e = ap bytes_of_token (sym (token_back a ha) ∙ ap token_of e ∙ token_back b hb)

tags_apart : (a b : List ℕ) → AreBytes a → AreBytes b → tags_word a ≡ tags_word b → a ≡ b
tags_apart [] [] ha hb e = refl
tags_apart [] (y ∷ ys) ha hb e = let no : ⊥ = cc (e) in absurd no
tags_apart (x ∷ xs) [] ha hb e = let no : ⊥ = cc (e) in absurd no
tags_apart (x ∷ xs) (y ∷ ys) ha hb e = let same : printed (x ∷ xs) ≡ printed (y ∷ ys) = cc (e) in tokens_apart (x ∷ xs) (y ∷ ys) ha hb same

kinds_apart : (j k : ℕ) → IsTrue (is_kind j) → IsTrue (is_kind k) → kind_name j ≡ kind_name k → j ≡ k
kinds_apart j k hj hk e = sym (kind_back j hj) ∙ ap code_of e ∙ kind_back k hk

outcomes_apart : (a b : Bool) → outcome_name a ≡ outcome_name b → a ≡ b
outcomes_apart true true e = refl
outcomes_apart true false e = let no : ⊥ = omega (arith, ap length e) in absurd no
outcomes_apart false true e = let no : ⊥ = omega (arith, ap length e) in absurd no
outcomes_apart false false e = refl

same_cell : (x y : NumberedCell) → x.0 ≡ y.0 → x.1.row ≡ y.1.row → x.1.family ≡ y.1.family → x.1.qualifier ≡ y.1.qualifier → x.1.ts ≡ y.1.ts → x.1.kind ≡ y.1.kind → x.1.value ≡ y.1.value → x.1.tags ≡ y.1.tags → x ≡ y
same_cell x y n r f q t k v g = λ i. (n i, record { row = r i; family = f i; qualifier = q i; ts = t i; kind = k i; value = v i; tags = g i })

cells_apart : (x y : NumberedCell) (s t : List Words) → IsNumberedCell x → IsNumberedCell y → cell_part x ++ s ≡ cell_part y ++ t → (x ≡ y) × (s ≡ t)
cells_apart x y s t hx hy e =
    let number : decimal x.0 ≡ decimal y.0 = cc in
    let row : printed x.1.row ≡ printed y.1.row = cc in
    let family : printed x.1.family ≡ printed y.1.family = cc in
    let qualifier : printed x.1.qualifier ≡ printed y.1.qualifier = cc in
    let ts : decimal x.1.ts ≡ decimal y.1.ts = cc in
    let kind : kind_name x.1.kind ≡ kind_name y.1.kind = cc in
    let value : printed x.1.value ≡ printed y.1.value = cc in
    let tags : tags_word x.1.tags ≡ tags_word y.1.tags = cc in
    let rest : s ≡ t = cc in
    let same : x ≡ y = same_cell x y
    (decimal_injective x.0 y.0 hx.number hy.number number)
    (tokens_apart x.1.row y.1.row hx.row hy.row row) (tokens_apart x.1.family y.1.family hx.family hy.family family)
    (tokens_apart x.1.qualifier y.1.qualifier hx.qualifier hy.qualifier qualifier)
    (decimal_injective x.1.ts y.1.ts (omega (arith, hx.cell.ts)) (omega (arith, hy.cell.ts)) ts)
    (kinds_apart x.1.kind y.1.kind hx.cell.kind hy.cell.kind kind) (tokens_apart x.1.value y.1.value hx.value hy.value value) (tags_apart x.1.tags y.1.tags hx.tags hy.tags tags) in
    (same, rest)

edits_apart : (x y : EditLine) (s t : List Words) → IsEditLine x → IsEditLine y → edit_part x ++ s ≡ edit_part y ++ t → (x ≡ y) × (s ≡ t)
edits_apart x y s t hx hy e =
    let number : decimal x.number ≡ decimal y.number = cc in
    let handler : decimal x.handler ≡ decimal y.handler = cc in
    let call : decimal x.call ≡ decimal y.call = cc in
    let done : outcome_name x.done ≡ outcome_name y.done = cc in
    let rest : s ≡ t = cc in
    let n = decimal_injective x.number y.number hx.0 hy.0 number in
    let h = decimal_injective x.handler y.handler hx.1.0 hy.1.0 handler in
    let c = decimal_injective x.call y.call hx.1.1.0 hy.1.1.0 call in
    let d = outcomes_apart x.done y.done done in
    let same : x ≡ y = λ i. record { number = n i; handler = h i; call = c i; done = d i } in
    (same, rest)

-- anything may follow a line of its own
Any : ℕ → Type 0
Any n = Unit {0}

are_cells : AreParts cell_part IsNumberedCell 4 Any
unfolding Any
are_cells = record { tagged = λ x s. refl; again = tt; one = λ x y s t hx hy hs ht e. cells_apart x y s t hx hy e }

are_edits : AreParts edit_part IsEditLine 4 Any
unfolding Any
are_edits = record { tagged = λ x s. refl; again = tt; one = λ x y s t hx hy hs ht e. edits_apart x y s t hx hy e }

any : (n : ℕ) → Any n
unfolding Any
any n = tt

-- after a region with its edits, and after a reply with its cells, no line of such a kind comes
NotFour : ℕ → Type 0
NotFour n = n ≢ 4

regions_apart : (x y : RegionLine) (s t : List Words) → IsRegionLine x → IsRegionLine y → top s ≢ 4 → top t ≢ 4 → region_part x ++ s ≡ region_part y ++ t → (x ≡ y) × (s ≡ t)
regions_apart x y s t hx hy hs ht e =
    let region : decimal x.region ≡ decimal y.region = cc in
    let last : decimal x.last ≡ decimal y.last = cc in
    let count : decimal x.count ≡ decimal y.count = cc in
    let rest : flat_map edit_part x.edits ++ s ≡ flat_map edit_part y.edits ++ t = cc in
    let r = decimal_injective x.region y.region hx.numbers.0 hy.numbers.0 region in
    let l = decimal_injective x.last y.last hx.numbers.1.0 hy.numbers.1.0 last in
    let c = decimal_injective x.count y.count hx.numbers.1.1.0 hy.numbers.1.1.0 count in
    let more = runs_apart are_edits x.edits y.edits s t hx.edits hy.edits hs ht (any (top s)) (any (top t)) rest in
    let same : x ≡ y = λ i. record { region = r i; last = l i; count = c i; edits = more.0 i } in
    (same, more.1)

are_regions : AreParts region_part IsRegionLine 6 NotFour
unfolding NotFour
are_regions = record { tagged = λ x s. refl; again = λ e. omega arith; one = regions_apart }

replies_apart : (x y : ReplyLine) (s t : List Words) → IsReplyLine x → IsReplyLine y → top s ≢ 4 → top t ≢ 4 → reply_part x ++ s ≡ reply_part y ++ t → (x ≡ y) × (s ≡ t)
replies_apart x y s t hx hy hs ht e =
    let handler : decimal x.handler ≡ decimal y.handler = cc in
    let call : decimal x.call ≡ decimal y.call = cc in
    let words : answer_words x.got x.answer ≡ answer_words y.got y.answer = cc in
    let rest : flat_map cell_part (cells_told x.answer) ++ s ≡ flat_map cell_part (cells_told y.answer) ++ t = cc in
    let h = decimal_injective x.handler y.handler hx.numbers.0 hy.numbers.0 handler in
    let c = decimal_injective x.call y.call hx.numbers.1.0 hy.numbers.1.0 call in
    let more = runs_apart are_cells (cells_told x.answer) (cells_told y.answer) s t hx.cells hy.cells hs ht (any (top s)) (any (top t)) rest in
    let a = answers_apart x.got y.got x.answer y.answer hx.answer hy.answer words more.0 in
    let g = gets_apart x.got y.got x.answer y.answer hx.got hy.got words in
    let same : x ≡ y = λ i. record { handler = h i; call = c i; answer = a i; got = g i } in
    (same, more.1)

are_replies : AreParts reply_part IsReplyLine 5 NotFour
unfolding NotFour
are_replies = record { tagged = λ x s. refl; again = λ e. omega arith; one = replies_apart }

end_other : (status : ℕ) → NotFour (top (end_part status))
unfolding NotFour
end_other status e = omega arith

not_five : (status : ℕ) → top (end_part status) ≢ 5
not_five status e = omega arith

replies_top : (replies : List ReplyLine) (status : ℕ) → top (flat_map reply_part replies ++ end_part status) ≢ 6
replies_top [] status e = omega arith
replies_top (r ∷ rs) status e = omega arith

-- reports with the same lines are one
same_lines : (a b : Report) → IsReport a → IsReport b → report_lines a ≡ report_lines b → a ≡ b
same_lines a b ha hb e =
    let whole : flat_map region_part a.regions ++ (flat_map reply_part a.replies ++ end_part a.status) ≡ flat_map region_part b.regions ++ (flat_map reply_part b.replies ++ end_part b.status) = cc in
    let first = runs_apart are_regions a.regions b.regions (flat_map reply_part a.replies ++ end_part a.status) (flat_map reply_part b.replies ++ end_part b.status) ha.regions hb.regions
    (replies_top a.replies a.status) (replies_top b.replies b.status)
    (follows are_replies a.replies (end_part a.status) (end_other a.status)) (follows are_replies b.replies (end_part b.status) (end_other b.status)) whole in
    let second = runs_apart are_replies a.replies b.replies (end_part a.status) (end_part b.status) ha.replies hb.replies
    (not_five a.status) (not_five b.status) (end_other a.status) (end_other b.status) first.1 in
    let ends = second.1 in
    let status : decimal a.status ≡ decimal b.status = cc (ends) in
    let n = decimal_injective a.status b.status ha.status hb.status status in
    λ i. record { regions = first.0 i; replies = second.0 i; status = n i }

pub one_reading : HasOneReading
one_reading a b ha hb e =
    same_lines a b ha hb (lines_one (report_lines a) (report_lines b) (report_clean a ha) (report_clean b hb) (sym (text_by_lines a) ∙ e ∙ text_by_lines b))
