use Rattle.std.proofs.Common.{◌∙◌, ◌-◌, length, take, drop, sym}
use Rattle.std.proofs.lemmas.Result.{IfOk-weaker}
use Rattle.row_reader.specs.Marks.{IsMarkedAt}
use Rattle.mask_model.specs.Masked.{in_family}
use Rattle.row_reader.proofs.Families.{rest_rises, same_family, other_family}
use Rattle.row_reader.proofs.marks.marks_at.Goals as goal

pub returns-then-is_family : goal.returns-then-is_family
returns-then-is_family c =
    let of = (λ i. in_family (sym c.cell.ensures i) (sym c.cell-2.ensures i)) ∙ sym c.is_family.ensures ∙ c.if-is_family.true in
    same_family c.args.cells.now c.args.place c.index-cells-place.result c.index-cells-place-2.result c.requires.order c.if-place-eq0.false c.index-cells-place.is
    c.index-cells-place-2.is c.args.before of c.requires.before

pub family_of_first-requires-2 : goal.family_of_first-requires-2
family_of_first-requires-2 c = record { order = rest_rises c.args.cells.now c.args.place c.requires.within c.requires.order }

pub returns : goal.returns
returns c =
    let cells = c.args.cells.now in
    let place = c.args.place in
    let apart = (λ i. in_family (sym c.cell.ensures i) (sym c.cell-2.ensures i)) ∙ sym c.is_family.ensures ∙ c.if-is_family.false in
    IfOk-weaker c.family_of_first-2.result (IsMarkedAt (take (length cells - place) (drop place cells)) 0) (IsMarkedAt cells place)
    (λ m. other_family cells place c.index-cells-place.result c.index-cells-place-2.result c.requires.order c.if-place-eq0.false c.index-cells-place.is c.index-cells-place-2.is m apart)
    c.family_of_first-2.ensures
