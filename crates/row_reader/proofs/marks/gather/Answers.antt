use Rattle.std.specs.Global.{Global}
use Rattle.std.proofs.Common.{Vec, inl, inr, ◌≡◌, ℕ, ◌∙◌, ◌++◌, ◌∷◌, [], sym, ap, arith, Some, ◌||◌, true, false, length, nat_le, ◌<◌}
use Rattle.cell_model.specs.Cell.{Cell}
use Rattle.cell_model.specs.Order.{NumberedCell}
use Rattle.mask_model.specs.Masked.{in_family}
use Rattle.kv_cell.specs.Kind.{code_of}
use Rattle.row_reader.specs.Marks.{reaches, marks}
use Rattle.row_reader.proofs.Families.{family_ended, step_family, step_version, step_other}
use Rattle.row_reader.proofs.Splits.{none_in_front}
use Rattle.row_reader.proofs.marks.gather.Goals.{in-DeleteFamily, in-DeleteFamilyVersion+in_ok-push-in-DeleteFamilyVersion, in-Put}
use Rattle.row_reader.proofs.marks.gather.Goals as goal

pub returns-then-not-is_family : goal.returns-then-not-is_family
returns-then-not-is_family c before after x p split here row family =
    let cells = c.args.cells.now in
    let first = none_in_front cells before after x split here in
    let apart : in_family c.index-cells-place.result.1 c.index-cells-0.result.1 ≡ false = (λ i. in_family (sym c.cell-cell.ensures i) (sym c.cell.ensures i)) ∙ sym c.is_family.ensures ∙ c.if-not-is_family.true in
    c.loop-place.invariant after x p first row family
    ∙ family_ended cells after c.loop-place.place x p c.index-cells-0.result c.index-cells-place.result c.requires.order (omega (arith, c.loop-place-test.true)) c.index-cells-0.is c.index-cells-place.is
    apart first row family

pub loop-place-preserved : goal.loop-place-preserved
loop-place-preserved c after x p split row family =
    let cells = c.args.cells.now in
    let i = c.loop-place.place in
    let f : NumberedCell = c.index-cells-0.result in
    let w : NumberedCell = c.index-cells-place.result in
    let of : in_family w.1 f.1 ≡ true = (λ i. in_family (sym c.cell-cell.ensures i) (sym c.cell.ensures i)) ∙ sym c.is_family.ensures ∙ c.if-not-is_family.false in
    let inside = c.cell-in-loop-place.view_is ∙ c.cell-cell.ensures in
    let kind : code_of c.cell-in-loop-place.inside.kind ≡ w.1.kind = ap (λ (z : Cell). z.kind) inside in
    let ts : c.cell-in-loop-place.inside.ts ≡ w.1.ts = ap (λ (z : Cell). z.ts) inside in
    let within : i < length cells = omega (arith, c.loop-place-test.true) in
    elim c.match-cell.branch [
      | in-DeleteFamily b ↦
          ap (λ t. marks (record { through = t; exact = c.match-cell.exact.items }) p.1.ts) b.through-is
          ∙ ap (λ (e : Vec ℕ Global). marks (record { through = Some b.later.result; exact = e.items }) p.1.ts) b.exact-is
          ∙ step_family cells i f w within c.index-cells-0.is c.index-cells-place.is of c.loop-place.through c.loop-place.exact.items b.later.result c.loop-place.invariant
          (sym kind ∙ ap code_of b.in-DeleteFamily.is) (λ q. b.later.ensures q ∙ (λ j. reaches c.loop-place.through q || nat_le q (ts j))) after x p split row family
      | in-DeleteFamilyVersion+in_ok-push-in-DeleteFamilyVersion b ↦
          ap (λ t. marks (record { through = t; exact = c.match-cell.exact.items }) p.1.ts) b.through-is
          ∙ ap (λ (e : Vec ℕ Global). marks (record { through = c.loop-place.through; exact = e.items }) p.1.ts) b.exact-is
          ∙ ap (λ e. marks (record { through = c.loop-place.through; exact = e }) p.1.ts) (b.in_ok-push-in-DeleteFamilyVersion.ensures.items ∙ (λ j. c.loop-place.exact.items ++ ts j ∷ []))
          ∙ step_version cells i f w within c.index-cells-0.is c.index-cells-place.is of c.loop-place.through c.loop-place.exact.items c.loop-place.invariant
          (sym kind ∙ ap code_of b.in-DeleteFamilyVersion.is) after x p split row family
      | in-Put b ↦
          ap (λ t. marks (record { through = t; exact = c.match-cell.exact.items }) p.1.ts) b.through-is
          ∙ ap (λ (e : Vec ℕ Global). marks (record { through = c.loop-place.through; exact = e.items }) p.1.ts) b.exact-is
          ∙ step_other cells i f w within c.index-cells-0.is c.index-cells-place.is of c.loop-place.through c.loop-place.exact.items c.loop-place.invariant
          (λ e. elim b.in-Put.is as (λ _. ⊥) [
            | inl put ↦ omega (arith, e, kind, ap code_of put)
            | inr (inl delete) ↦ omega (arith, e, kind, ap code_of delete)
            | inr (inr column) ↦ omega (arith, e, kind, ap code_of column)
          ])
          (λ e. elim b.in-Put.is as (λ _. ⊥) [
            | inl put ↦ omega (arith, e, kind, ap code_of put)
            | inr (inl delete) ↦ omega (arith, e, kind, ap code_of delete)
            | inr (inr column) ↦ omega (arith, e, kind, ap code_of column)
          ]) after x p split row family
    ]
