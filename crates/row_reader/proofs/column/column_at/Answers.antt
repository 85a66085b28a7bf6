use Rattle.std.proofs.Common.{◌∙◌, sym, subst}
use Rattle.mask_model.specs.Masked.{in_column}
use Rattle.row_reader.specs.Column.{IsReadyAt}
use Rattle.row_reader.proofs.Columns.{at_first, at_next, at_other}
use Rattle.row_reader.proofs.column.column_at.Goals as goal

pub returns-then-place-eq0 : goal.returns-then-place-eq0
returns-then-place-eq0 c = subst (IsReadyAt c.args.versions c.args.cells.now c.args.place) (sym c.new.ensures) (at_first c.args.versions c.args.cells.now c.args.place c.if-place-eq0.true)

pub returns-then-is_column : goal.returns-then-is_column
returns-then-is_column c =
    let of = (λ i. in_column (sym c.cell.ensures i) (sym c.cell-2.ensures i)) ∙ sym c.is_column.ensures ∙ c.if-is_column.true in
    at_next c.args.versions c.args.cells.now c.args.place c.index-cells-place.result c.index-cells-place-2.result c.requires.order c.if-place-eq0.false c.index-cells-place.is
    c.index-cells-place-2.is c.args.column of c.requires.before

pub returns : goal.returns
returns c =
    let apart = (λ i. in_column (sym c.cell.ensures i) (sym c.cell-2.ensures i)) ∙ sym c.is_column.ensures ∙ c.if-is_column.false in
    subst (IsReadyAt c.args.versions c.args.cells.now c.args.place) (sym c.new-2.ensures)
    (at_other c.args.versions c.args.cells.now c.args.place c.index-cells-place.result c.index-cells-place-2.result c.requires.order c.if-place-eq0.false c.index-cells-place.is
    c.index-cells-place-2.is apart)
