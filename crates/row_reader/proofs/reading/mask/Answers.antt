use Rattle.std.proofs.Common.{◌≡◌, ◌+◌, ◌<◌, ◌∙◌, ◌++◌, ◌∷◌, [], cond, length, filter, take, sym, ap, subst, arith}
use Rattle.std.proofs.lemmas.List.{take_all}
use Rattle.cell_model.specs.Cell.{Cell}
use Rattle.cell_model.specs.Order.{NumberedCell}
use Rattle.mask_model.specs.Masked.{is_shown, first_versions, masked}
use Rattle.row_reader.specs.Marks.{marks}
use Rattle.row_reader.specs.Column.{gives, passed, IsPassedUpTo}
use Rattle.row_reader.proofs.Splits.{behind_none}
use Rattle.row_reader.proofs.Passes.{marked_next, passed_next, seen_next}
use Rattle.row_reader.proofs.reading.mask.Goals.{then-pass+in_ok-share+in_ok-push, else-pass}
use Rattle.row_reader.proofs.reading.mask.Goals as goal

pub loop-place-preserved : goal.loop-place-preserved
loop-place-preserved c =
    let v = c.args.versions in
    let cells = c.args.cells.now in
    let place = c.loop-place.place in
    let w : NumberedCell = c.index-cells-place.result in
    let m = c.column_at-column.result in
    let covered = c.cover.result in
    let within : place < length cells = omega (arith, c.loop-place-test.true) in
    let covers : covered ≡ marks c.in_ok-marks.marks w.1.ts = c.cover.ensures ∙ ap (marks c.in_ok-marks.marks) (ap (λ (z : Cell). z.ts) (c.cell.view_is ∙ c.cell-cell.ensures)) in
    let given : c.pass.result ≡ gives m covered w.1 = c.pass.ensures.given ∙ ap (gives m covered) c.cell-cell.ensures in
    let seen = seen_next v cells place w c.in_ok-marks.marks m covered c.requires.order within c.index-cells-place.is covers c.in_ok-marks.ensures c.column_at-column.ensures in
    let met = passed_next v cells place w c.in_ok-marks.marks m covered c.requires.order within c.index-cells-place.is covers c.in_ok-marks.ensures c.column_at-column.ensures in
    record {
      seen = elim c.if-pass.branch [
        | then-pass+in_ok-share+in_ok-push b ↦ b.seen-is ∙ b.in_ok-push.ensures.ok ∙ (λ i. c.loop-place.invariant.seen i ++ b.in_ok-share.ensures i ∷ [])
            ∙ ap (λ g. first_versions v [] (filter (is_shown cells) (take place cells)) ++ cond g (w ∷ []) []) (sym b.if-pass.true ∙ given) ∙ sym seen
        | else-pass b ↦ b.seen-is ∙ c.loop-place.invariant.seen ∙ sym (behind_none (first_versions v [] (filter (is_shown cells) (take place cells))))
            ∙ ap (λ g. first_versions v [] (filter (is_shown cells) (take place cells)) ++ cond g (w ∷ []) []) (sym b.if-pass.false ∙ given) ∙ sym seen
      ];
      marks = marked_next v cells place w c.in_ok-marks.marks m covered c.requires.order within c.index-cells-place.is covers c.in_ok-marks.ensures c.column_at-column.ensures;
      column = subst (IsPassedUpTo v cells (place + 1)) (sym (c.pass.ensures.passed ∙ ap (passed m covered) c.cell-cell.ensures)) met;
    }

pub returns : goal.returns
unfolding masked
returns c = record {
  seen = c.loop-place.invariant.seen
      ∙ ap (λ l. first_versions c.args.versions [] (filter (is_shown c.args.cells.now) l)) (take_all c.loop-place.place c.args.cells.now (omega (arith, c.loop-place-test.false)));
}
