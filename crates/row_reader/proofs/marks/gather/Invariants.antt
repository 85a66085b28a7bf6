use Rattle.std.proofs.Common.{◌≡◌, List, ◌∷◌, take}
use Rattle.cell_model.specs.Order.{NumberedCell}
use Rattle.mask_model.specs.Passing.{covered}
use Rattle.row_reader.specs.Marks.{marks}
use Rattle.row_reader.proofs.marks.gather.Given as goal

-- what was found masks what the deletes so far mask of the first cell's family
abbrev pub invariant-loop-place : goal.invariant-loop-place
invariant-loop-place l =
    (after : List NumberedCell) (x p : NumberedCell) → l.cells ≡ x ∷ after → p.1.row ≡ x.1.row → p.1.family ≡ x.1.family
    → marks (record { through = l.through; exact = l.exact.items }) p.1.ts ≡ covered (take l.place l.cells) p
