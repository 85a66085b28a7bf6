use Rattle.entry_frame.proofs.OwnLaws.{Copied}
use Rattle.entry_frame.proofs.owning.own_cells.Given as goal

-- so many cells are copied, and the others stand in the rest
abbrev pub invariant-loop : goal.invariant-loop
invariant-loop l = Copied l.form l.bytes l.count l.cells.items l.rest l.counter
