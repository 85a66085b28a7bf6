-- What always holds of the numbers that the accounting keeps.
use Rattle.std.specs.Prelude.{◌≡◌, ℕ, ◌<◌, ◌≤◌, List, [], length, get_or, AllPairs, Contains}
use Rattle.seq_accounting.specs.Marks.{number_of}
use Rattle.seq_accounting.specs.Accounts.{ClosedFile, Accounts, IsBefore, flushed_at, since_at}

-- the numbers of one region
pub record AreOfRegion (a : Accounts) (r : ℕ) : Type 0 where
  pub flushed_noted : (f : List ℕ) → flushed_at a r f ≤ get_or a.noted r 0
  pub current_noted : (f : List ℕ) → number_of a.current r f ≤ get_or a.noted r 0
  pub flushing_noted : get_or a.flushing r 0 ≤ get_or a.noted r 0
  pub flushing_above : 0 < get_or a.flushing r 0 → (f : List ℕ) → flushed_at a r f ≤ get_or a.flushing r 0
  pub since_none : get_or a.flushing r 0 ≡ 0 → (f : List ℕ) → since_at a r f ≡ 0

-- a closed file among others that rise up to the last one
pub record IsOfFiles (last : ℕ) (noted : List ℕ) (c : ClosedFile) : Type 0 where
  pub given : 1 ≤ c.file
  pub closed : c.file ≤ last
  pub highest : (r : ℕ) (f : List ℕ) → number_of c.highest r f ≤ get_or noted r 0

-- each list has a place for each region
pub record AreWide (a : Accounts) : Type 0 where
  pub whole : length a.whole ≡ 65
  pub noted : length a.noted ≡ 65
  pub flushing : length a.flushing ≡ 65
  pub flushed : length a.flushed ≡ 65
  pub oldest : length a.oldest ≡ 65
  pub since : length a.since ≡ 65

pub record IsInOrder (a : Accounts) : Type 0 where
  pub wide : AreWide a
  pub regions : (r : ℕ) → AreOfRegion a r
  pub rising : AllPairs IsBefore a.closed
  pub files : (c : ClosedFile) → Contains a.closed c → IsOfFiles a.last a.noted c
