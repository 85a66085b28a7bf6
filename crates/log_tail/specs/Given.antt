-- What is given of a log that was read, and where the reader goes.
use Rattle.std.specs.Prelude.{◌≡◌, ◌⊎◌, ◌<◌, ◌≤◌, ◌+◌, ◌-◌, ◌^◌, ℕ, Bool, ◌||◌, ◌&&◌, nat_lt, cond, is_some, IsTrue, List, length, drop, Option}
use Rattle.log_model.specs.Entry.{Entry}
use Rattle.chronicle_model.specs.Chronicle.{Position}
use Rattle.log_tail.specs.declared.refusal.TailRefusal.{TailRefusal}
use Rattle.log_tail.specs.declared.refusal.TailRefusal.TheVariants.{NoPosition}

-- what stands after the position
abbrev pub IsGiven : Position → List Entry → List Entry → Type 0
IsGiven p entries given = (p.entries ≤ length entries) × (given ≡ drop p.entries entries)

-- the log has fewer entries
abbrev pub IsTooFar : Position → ℕ → TailRefusal → Type 0
IsTooFar p has refusal = (has < p.entries) × (refusal ≡ NoPosition p.file has)

-- there is no log of the number
abbrev pub IsNowhere : Position → Bool → TailRefusal → Type 0
IsNowhere p higher refusal = ((0 < p.entries) ⊎ IsTrue higher) × (refusal ≡ NoPosition p.file 0)

-- whether the log is over
abbrev pub is_over : ℕ → Option ℕ → Bool → Bool
is_over number ended higher = higher || (is_some ended && nat_lt number (2 ^ 64 - 1))

-- the position after all entries of the log, or before the next log
abbrev pub next_position : Position → ℕ → Option ℕ → Bool → Position
next_position p has ended higher = cond (is_over p.file ended higher) (record { file = p.file + 1; entries = 0 }) (record { file = p.file; entries = has })
