use Rattle.std.proofs.Common.{◌≡◌, ◌++◌, take}
use Rattle.std.specs.List.{flat_map}
use Rattle.cell_model.specs.Cell.{spelled}
use Rattle.entry_frame.proofs.writing.spell_entry.Given as goal

-- the cells so far stand after the head
abbrev pub invariant-loop-cell : goal.invariant-loop-cell
invariant-loop-cell l = l.bytes.items ≡ l.initial.bytes.items ++ flat_map (spelled l.form) (take l.cell-index l.cells)
