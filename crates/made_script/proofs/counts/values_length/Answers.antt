use Rattle.made_script.proofs.Counting.{values_fit}
use Rattle.made_script.proofs.counts.values_length.Goals as goal

pub returns-clause-most : goal.returns-clause-most
returns-clause-most c =
    values_fit c.args.batch.now c.as_slice-cell-items.result.now c.loop-cell.cell-index c.loop-cell.total
    c.as_slice-cell-items.ensures.value c.as_slice-cell-items.ensures.within c.loop-cell.invariant.so_far
