use Rattle.std.proofs.Common.{◌≡◌, true, take}
use Rattle.cell_model.specs.Batch.{are_untagged}
use Rattle.kv_cell.proofs.batch.none_tagged.Given as goal

-- those so far have no tags
abbrev pub invariant-loop-cell : goal.invariant-loop-cell
invariant-loop-cell l = are_untagged (take l.cell-index l.cells) ≡ true
