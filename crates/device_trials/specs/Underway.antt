-- Which flushes are under way: what the tests carry from step to step.
use Rattle.std.specs.Prelude.{◌≡◌, ◌≢◌, ℕ, List, get_or}
use Rattle.seq_accounting.specs.Accounts.{Flush}

-- none is
abbrev pub IsIdle : List ℕ → Type 0
IsIdle flushing = (r : ℕ) → get_or flushing r 0 ≡ 0

-- this one is, and no other
pub record IsOnly (flushing : List ℕ) (flush : Flush) : Type 0 where
  pub this : get_or flushing flush.region 0 ≡ flush.number
  pub others : (r : ℕ) → r ≢ flush.region → get_or flushing r 0 ≡ 0
