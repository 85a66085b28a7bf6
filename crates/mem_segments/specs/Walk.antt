-- Several lists of numbered cells in order, walked as one.
use Rattle.std.specs.Prelude.{◌≡◌, ◌↔◌, ℕ, Bool, false, not, IsTrue, List, [], ◌∷◌, filter, take, drop, Option, Some, None, if◌then◌else◌}
use Rattle.std.specs.Ordering.{nat_cmp, is_eq, is_lt, is_le}
use Rattle.std.specs.Cmp.Lexicographic.{slice_cmp}
use Rattle.cell_model.specs.Order.{NumberedCell, numbered_cmp}
use Rattle.cell_model.specs.Merge.{by_turn, merged}

-- all of them, merged; of equal versions the last list's stays
abbrev pub merged_all : List (List NumberedCell) → List NumberedCell
merged_all [] = []
merged_all (xs ∷ rest) = merged xs (merged_all rest)

abbrev pub head_of : List NumberedCell → Option NumberedCell
head_of [] = None
head_of (x ∷ xs) = Some x

-- the one that comes first; of two that tie the second
abbrev pub lesser : Option NumberedCell → Option NumberedCell → Option NumberedCell
lesser None y = y
lesser (Some x) None = Some x
lesser (Some x) (Some y) = by_turn (numbered_cmp x y) (Some x) (Some y) (Some y)

-- the least of their heads
abbrev pub least_of : List (List NumberedCell) → Option NumberedCell
least_of [] = None
least_of (xs ∷ rest) = lesser (head_of xs) (least_of rest)

-- the list past its head, where that ties with this one
abbrev pub past : NumberedCell → List NumberedCell → List NumberedCell
past least [] = []
past least (x ∷ xs) = if is_eq (numbered_cmp x least) then xs else x ∷ xs

-- its row lies below this one
abbrev pub is_before : List ℕ → NumberedCell → Bool
is_before bound x = is_lt (slice_cmp nat_cmp x.1.row bound)

-- ---- a walk that is laid down and taken up again

-- it stands at or before the last one that was given
abbrev pub is_given : Option NumberedCell → NumberedCell → Bool
is_given None x = false
is_given (Some last) x = is_le (numbered_cmp x last)

-- of these cells in order, those after the last one that was given
abbrev pub to_come : Option NumberedCell → List NumberedCell → List NumberedCell
to_come last xs = filter (λ x. not (is_given last x)) xs

-- the last one given, once these are given too
abbrev pub last_given : Option NumberedCell → List NumberedCell → Option NumberedCell
last_given last [] = last
last_given last (x ∷ xs) = last_given (Some x) xs

-- a page of at most `count` cells: the first of what was to come, whether none is left, and what is to come now
pub record IsPage (count : ℕ) (given : List NumberedCell) (is_last : Bool) (before after : List NumberedCell) : Type 0 where
  pub cells : given ≡ take count before
  pub rest : after ≡ drop count before
  pub done : IsTrue is_last ↔ (after ≡ [])
