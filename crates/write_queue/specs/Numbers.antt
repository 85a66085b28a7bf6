-- The numbers that a write queue gave out, and which of them are completed.
use Rattle.std.specs.Prelude.{◌≡◌, ℕ, ◌+◌, ◌-◌, ◌<◌, ◌≤◌, ◌^◌, List, [], ◌∷◌, ◌++◌, length, replicate, slice_get, slice_set, Bool, true, false, Some, Contains}

pub record Numbers : Type 0 where
  -- the number before the first one
  pub last : ℕ
  -- of each number from last + 1 on, whether it is completed
  pub done : List Bool

-- and for how many more there is room
pub record Queue : Type 0 where
  pub numbers : Numbers
  pub room : ℕ

-- the completed ones of the numbers after last
abbrev pub completed_behind : ℕ → List Bool → List ℕ
completed_behind last [] = []
completed_behind last (true ∷ done) = (last + 1) ∷ completed_behind (last + 1) done
completed_behind last (false ∷ done) = completed_behind (last + 1) done

abbrev pub completed : Numbers → List ℕ
completed q = completed_behind q.last q.done

-- the last number that was begun
abbrev pub last_begun : Numbers → ℕ
last_begun q = q.last + length q.done

-- the number was begun and isn't completed
abbrev pub IsOut : Numbers → ℕ → Type 0
IsOut q n = (q.last < n) × (slice_get q.done (n - q.last - 1) ≡ Some false)

-- no number is out
abbrev pub IsIdle : Numbers → Type 0
IsIdle q = Contains q.done false → ⊥

-- one number more is out
abbrev pub begun : Numbers → Numbers
begun q = record { last = q.last; done = q.done ++ false ∷ [] }

-- the number n is completed
abbrev pub with_completed : Numbers → ℕ → Numbers
with_completed q n = record { last = q.last; done = slice_set q.done (n - q.last - 1) true }

-- ---- what the queue keeps of them: the read point and the marks after it

abbrev pub numbers_of : ℕ → ℕ → List Bool → Numbers
numbers_of last read marks = record { last = last; done = replicate (read - last) true ++ marks }

-- the first mark isn't completed
abbrev pub IsOpen : List Bool → Type 0
IsOpen marks = slice_get marks 0 ≡ Some true → ⊥

pub record IsSettled (last read : ℕ) (marks : List Bool) : Type 0 where
  pub later : last ≤ read
  pub «open» : IsOpen marks
  pub limit : read + length marks < 2 ^ 48
