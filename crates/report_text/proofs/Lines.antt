-- The lines of a report by their words.
use Rattle.std.proofs.Common.{◌≡◌, ℕ, List, [], ◌∷◌, ◌++◌, codes, refl, sym, ap, ◌∙◌, append-nil}
use Rattle.std.specs.List.{flat_map}
use Rattle.std.specs.Fmt.{decimal}
use Rattle.std.proofs.lemmas.Grind.{flat_map-append}
use Rattle.cell_model.specs.Order.{NumberedCell}
use Rattle.script_model.specs.Text.{printed}
use Rattle.script_model.specs.Report.{EditLine, RegionLine, ReplyLine, Report, line, kind_name, tags_word, cell_line, answer_words, cells_told, outcome_name, edit_text, region_text, reply_text, end_line, report_text}
use Rattle.report_text.proofs.Runs.{Words}

abbrev pub cell_part : NumberedCell → List Words
cell_part x = (codes "cell" ∷ decimal x.0 ∷ printed x.1.row ∷ printed x.1.family ∷ printed x.1.qualifier ∷ decimal x.1.ts ∷ kind_name x.1.kind ∷ printed x.1.value ∷ tags_word x.1.tags) ∷ []

abbrev pub edit_part : EditLine → List Words
edit_part e = (codes "edit" ∷ decimal e.number ∷ decimal e.handler ∷ decimal e.call ∷ outcome_name e.done ∷ []) ∷ []

abbrev pub region_part : RegionLine → List Words
region_part r = (codes "region" ∷ decimal r.region ∷ codes "base" ∷ decimal r.last ∷ decimal r.count ∷ []) ∷ flat_map edit_part r.edits

abbrev pub reply_part : ReplyLine → List Words
reply_part r = (codes "reply" ∷ decimal r.handler ∷ decimal r.call ∷ answer_words r.got r.answer) ∷ flat_map cell_part (cells_told r.answer)

abbrev pub end_part : ℕ → List Words
end_part status = (codes "end" ∷ decimal status ∷ []) ∷ []

abbrev pub report_lines : Report → List Words
report_lines r = (codes "hwal" ∷ decimal 1 ∷ []) ∷ (flat_map region_part r.regions ++ (flat_map reply_part r.replies ++ end_part r.status))

-- a text made of parts is the text of their lines
by_parts : {X : Type 0} (text : X → List ℕ) (part : X → List Words) → ((x : X) → text x ≡ flat_map line (part x)) → (xs : List X) → flat_map text xs ≡ flat_map line (flat_map part xs)
by_parts text part h [] = refl
by_parts text part h (x ∷ xs) =
    ap (λ (t : List ℕ). t ++ flat_map text xs) (h x) ∙ ap (λ (t : List ℕ). flat_map line (part x) ++ t) (by_parts text part h xs)
    ∙ sym (flat_map-append line (part x) (flat_map part xs))

cell_lines : (x : NumberedCell) → cell_line x ≡ flat_map line (cell_part x)
unfolding cell_line
cell_lines x = sym (append-nil _)

edit_lines : (e : EditLine) → edit_text e ≡ flat_map line (edit_part e)
unfolding edit_text
edit_lines e = sym (append-nil _)

region_lines : (r : RegionLine) → region_text r ≡ flat_map line (region_part r)
unfolding region_text
region_lines r = ap (λ (t : List ℕ). line (codes "region" ∷ decimal r.region ∷ codes "base" ∷ decimal r.last ∷ decimal r.count ∷ []) ++ t) (by_parts edit_text edit_part edit_lines r.edits)

reply_lines : (r : ReplyLine) → reply_text r ≡ flat_map line (reply_part r)
unfolding reply_text
reply_lines r = ap (λ (t : List ℕ). line (codes "reply" ∷ decimal r.handler ∷ decimal r.call ∷ answer_words r.got r.answer) ++ t) (by_parts cell_line cell_part cell_lines (cells_told r.answer))

end_lines : (status : ℕ) → end_line status ≡ flat_map line (end_part status)
unfolding end_line
end_lines status = sym (append-nil _)

pub text_by_lines : (r : Report) → report_text r ≡ flat_map line (report_lines r)
unfolding report_text
text_by_lines r =
    ap (λ (t : List ℕ). line (codes "hwal" ∷ decimal 1 ∷ []) ++ t)
    (ap (λ (t : List ℕ). t ++ (flat_map reply_text r.replies ++ end_line r.status)) (by_parts region_text region_part region_lines r.regions)
    ∙ ap (λ (t : List ℕ). flat_map line (flat_map region_part r.regions) ++ (t ++ end_line r.status)) (by_parts reply_text reply_part reply_lines r.replies)
    ∙ ap (λ (t : List ℕ). flat_map line (flat_map region_part r.regions) ++ (flat_map line (flat_map reply_part r.replies) ++ t)) (end_lines r.status)
    ∙ ap (λ (t : List ℕ). flat_map line (flat_map region_part r.regions) ++ t) (sym (flat_map-append line (flat_map reply_part r.replies) (end_part r.status)))
    ∙ sym (flat_map-append line (flat_map region_part r.regions) (flat_map reply_part r.replies ++ end_part r.status)))
