-- What one pass over cells in order keeps, to tell of each put whether it is shown.
use Rattle.std.specs.Prelude.{◌≡◌, Bool, not, ◌&&◌, ◌||◌, ◌==◌, List, ◌∷◌, ◌++◌}
use Rattle.std.specs.List.{list_any}
use Rattle.cell_model.specs.Order.{NumberedCell}
use Rattle.cell_model.specs.Merge.{IsRising}
use Rattle.mask_model.specs.Masked.{in_column, by_delete_family, by_delete_family_version, is_shown}

-- a delete of the put's family covers it, wherever it stands
abbrev pub covered : List NumberedCell → NumberedCell → Bool
covered cells p = list_any (λ d. by_delete_family d.1 p.1 || by_delete_family_version d.1 p.1) cells

-- a delete column of its column stands before it
abbrev pub deleted_in : List NumberedCell → NumberedCell → Bool
deleted_in before p = list_any (λ d. d.1.kind == 12 && in_column d.1 p.1) before

-- a delete or a put of its column and timestamp stands before it
abbrev pub held_in : List NumberedCell → NumberedCell → Bool
held_in before p = list_any (λ d. (d.1.kind == 8 || d.1.kind == 4) && (in_column d.1 p.1 && d.1.ts == p.1.ts)) before

-- A put of cells in order is shown exactly where no delete of its family covers it, and no cell of its column that stands before it deletes or holds
-- it.
abbrev pub ShownInOnePass : Type 0
ShownInOnePass =
    (before after : List NumberedCell) (p : NumberedCell) → IsRising (before ++ p ∷ after) → p.1.kind ≡ 4
    → is_shown (before ++ p ∷ after) p ≡ not (covered (before ++ p ∷ after) p || (deleted_in before p || held_in before p))
