-- What a pass over cells in order keeps of the column that it is in.
use Rattle.std.specs.Prelude.{◌≡◌, ℕ, suc, ◌-◌, ◌⊎◌, Bool, true, false, not, ◌&&◌, ◌||◌, ◌==◌, nat_lt, if◌then◌else◌, List, [], ◌∷◌, ◌++◌, length, filter, Option, Some, None}
use Rattle.std.specs.declared.cmp.Ordering.TheVariants.{Less}
use Rattle.cell_model.specs.Cell.{Cell}
use Rattle.cell_model.specs.Order.{NumberedCell, numbered_cmp}
use Rattle.mask_model.specs.Masked.{in_column, is_shown, count_in_column}
use Rattle.mask_model.specs.Passing.{deleted_in, held_in}

-- whether a delete column was met, the timestamp of the last put or delete, and how many more versions are wanted
pub record Met : Type 0 where
  pub deleted : Bool
  pub held : Option ℕ
  pub left : ℕ

abbrev pub holds : Option ℕ → ℕ → Bool
holds None ts = false
holds (Some held) ts = held == ts

abbrev pub fresh : ℕ → Met
fresh versions = record { deleted = false; held = None; left = versions }

-- the next cell of the column is shown, where this tells whether a delete of its family covers it
abbrev pub shows : Met → Bool → Cell → Bool
shows m covered c = c.kind == 4 && not (covered || (m.deleted || holds m.held c.ts))

-- and is one of those that are wanted
abbrev pub gives : Met → Bool → Cell → Bool
gives m covered c = shows m covered c && nat_lt 0 m.left

-- after it
abbrev pub passed : Met → Bool → Cell → Met
passed m covered c = record {
  deleted = m.deleted || c.kind == 12;
  held = if c.kind == 8 || c.kind == 4 then Some c.ts else m.held;
  left = if shows m covered c then m.left - 1 else m.left;
}

-- What these cells hold of the column of x, for it and for what stands after it: `behind` says where.
pub record IsMet (versions : ℕ) (cells before : List NumberedCell) (x : NumberedCell) (behind : NumberedCell → Type 0) (m : Met) : Type 0 where
  pub deleted : deleted_in before x ≡ m.deleted
  pub held : (p : NumberedCell) → in_column x.1 p.1 ≡ true → behind p → held_in before p ≡ holds m.held p.1.ts
  pub left : m.left ≡ versions - count_in_column x (filter (is_shown cells) before)

-- what stands before the cell at the place
abbrev pub IsReadyAt : ℕ → List NumberedCell → ℕ → Met → Type 0
IsReadyAt versions cells place m =
    (before after : List NumberedCell) (x : NumberedCell) → cells ≡ before ++ x ∷ after → length before ≡ place
    → IsMet versions cells before x (λ p. (x ≡ p) ⊎ (numbered_cmp x p ≡ Less)) m

-- what stands up to the cell before the place, and it, where one stands there
abbrev pub IsPassedUpTo : ℕ → List NumberedCell → ℕ → Met → Type 0
IsPassedUpTo versions cells place m =
    (before after : List NumberedCell) (x : NumberedCell) → cells ≡ before ++ x ∷ after → suc (length before) ≡ place
    → IsMet versions cells (before ++ x ∷ []) x (λ p. numbered_cmp x p ≡ Less) m
