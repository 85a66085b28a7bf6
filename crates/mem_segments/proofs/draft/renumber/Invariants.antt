use Rattle.std.proofs.Common.{◌≡◌, ◌++◌, map, take, drop}
use Rattle.cell_model.specs.Order.{NumberedCell}
use Rattle.mem_segments.proofs.draft.renumber.Given as goal

abbrev pub invariant-loop-row : goal.invariant-loop-row
invariant-loop-row l = l.rows ≡ map (λ (x : NumberedCell). (l.number, x.1)) (take l.row-index l.fn.rows) ++ drop l.row-index l.fn.rows
