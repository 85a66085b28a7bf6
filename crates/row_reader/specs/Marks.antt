-- The deletes of a family, gathered.
use Rattle.std.specs.Prelude.{◌≡◌, ℕ, suc, Bool, false, ◌||◌, ◌==◌, nat_le, List, ◌∷◌, ◌++◌, length, Option, Some, None}
use Rattle.std.specs.List.{list_any}
use Rattle.cell_model.specs.Order.{NumberedCell}
use Rattle.mask_model.specs.Passing.{covered}

-- through which timestamp puts of the family are masked, and at which others
pub record Marked : Type 0 where
  pub through : Option ℕ
  pub exact : List ℕ

abbrev pub reaches : Option ℕ → ℕ → Bool
reaches None ts = false
reaches (Some through) ts = nat_le ts through

-- puts of the family with this timestamp are masked
abbrev pub marks : Marked → ℕ → Bool
marks m ts = reaches m.through ts || list_any (λ t. t == ts) m.exact

-- they mask what the deletes among the cells mask of the family of the cell at the place
abbrev pub IsMarkedAt : List NumberedCell → ℕ → Marked → Type 0
IsMarkedAt cells place m =
    (before after : List NumberedCell) (x p : NumberedCell) → cells ≡ before ++ x ∷ after → length before ≡ place → p.1.row ≡ x.1.row → p.1.family ≡ x.1.family
    → marks m p.1.ts ≡ covered cells p

-- they are those of the cell before the place, where one stands there
abbrev pub IsMarkedUpTo : List NumberedCell → ℕ → Marked → Type 0
IsMarkedUpTo cells place m = (k : ℕ) → suc k ≡ place → IsMarkedAt cells k m
