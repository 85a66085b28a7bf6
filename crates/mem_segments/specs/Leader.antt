-- The least head of several lists of numbered cells in order, and where it stands.
use Rattle.std.specs.Prelude.{◌≡◌, ◌≤◌, ◌<◌, ◌-◌, ℕ, zero, suc, IsTrue, List, [], ◌∷◌, map, drop, length, Option, Some, None}
use Rattle.cell_model.specs.Order.{NumberedCell}
use Rattle.mem_segments.specs.Walk.{least_of, past}
use Rattle.mem_segments.specs.declared.merge_iter.Leader.{Leader}

-- the list at this place past its first cell
abbrev pub past_at : ℕ → List (List NumberedCell) → List (List NumberedCell)
past_at n [] = []
past_at zero (xs ∷ rest) = drop 1 xs ∷ rest
past_at (suc n) (xs ∷ rest) = xs ∷ past_at n rest

-- of lists that stand from `first` on, this one's head is the least; where it is alone, no other head goes with it
pub record Leads (first : ℕ) (lists : List (List NumberedCell)) (leader : Leader) : Type 0 where
  pub least : least_of lists ≡ Some leader.row.now
  pub from : first ≤ leader.place
  pub within : leader.place - first < length lists
  pub alone : IsTrue leader.is_alone → map (past leader.row.now) lists ≡ past_at (leader.place - first) lists

-- they have this leader, or none where they have no head
abbrev pub IsLed : ℕ → List (List NumberedCell) → Option Leader → Type 0
IsLed first lists None = least_of lists ≡ None
IsLed first lists (Some leader) = Leads first lists leader
