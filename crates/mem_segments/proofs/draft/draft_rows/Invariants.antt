use Rattle.std.proofs.Common.{◌≡◌, take}
use Rattle.std.specs.Arc.{arc_value}
use Rattle.cell_model.specs.Merge.{at_number}
use Rattle.mem_segments.proofs.draft.draft_rows.Given as goal

abbrev pub invariant-loop-place : goal.invariant-loop-place
invariant-loop-place l = l.rows.items ≡ at_number 0 (take l.place (arc_value l.batch).cells)
