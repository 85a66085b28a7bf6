use Rattle.std.proofs.Common.{◌≡◌, sym, ap, subst, ◌∙◌}
use Rattle.cell_model.specs.Cell.{Cell}
use Rattle.seq_accounting.specs.Marks.{IsAdded}
use Rattle.seq_accounting.proofs.BatchLaws.{families_more}
use Rattle.seq_accounting.proofs.families.FamilyMarks.of_batch.Goals as goal

pub invariant_of-result : goal.invariant_of-result
invariant_of-result c f = c.loop-cell.invariant.file f ∙ sym (c.loop-cell.invariant.account f)

pub add-requires : goal.add-requires
add-requires c f = c.loop-cell.invariant.file f ∙ sym (c.loop-cell.invariant.account f)

pub loop-cell-preserved : goal.loop-cell-preserved
loop-cell-preserved c =
    let cells = c.as_slice-cell-items.result.now in
    let i = c.loop-cell.cell-index in
    let cell = c.cell-item.result in
    let family = c.as_slice.ensures ∙ ap (λ (x : Cell). x.family) c.cell.view_is in
    record {
      account = families_more cells i cell c.loop-cell.account c.add.new.account c.loop-cell-test.true (sym c.cell-item.is)
          (subst (IsAdded c.loop-cell.account c.add.new.account) family c.in_ok-add.ensures.account) c.loop-cell.invariant.account;
      file = families_more cells i cell c.loop-cell.file c.add.new.file c.loop-cell-test.true (sym c.cell-item.is)
          (subst (IsAdded c.loop-cell.file c.add.new.file) family c.in_ok-add.ensures.file) c.loop-cell.invariant.file;
    }
