use Rattle.std.proofs.Common.{◌≡◌, take}
use Rattle.kv_cell.proofs.batch.are_same.Given as goal

-- those so far are the same
abbrev pub invariant-loop-at : goal.invariant-loop-at
invariant-loop-at l = take l.at l.cells ≡ take l.at l.others
