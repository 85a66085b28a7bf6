-- What each call makes of the accounts.
use Rattle.std.specs.Prelude.{◌≡◌, ◌≢◌, ℕ, ◌==◌, ◌&&◌, if◌then◌else◌, List, [], length, get_or, slice_set}
use Rattle.seq_accounting.specs.Marks.{number_of, has_family, first_given}
use Rattle.seq_accounting.specs.Accounts.{Accounts, Flush, is_for, flushed_at, since_at, oldest_at}

-- what is told of flushed numbers is the same
pub record SameFlushed (old new : Accounts) : Type 0 where
  pub whole : new.whole ≡ old.whole
  pub flushed : new.flushed ≡ old.flushed

-- what is told of numbers that were noted and not flushed is the same
pub record SameOldest (old new : Accounts) : Type 0 where
  pub oldest : new.oldest ≡ old.oldest
  pub since : new.since ≡ old.since

-- what is told of closed files is the same
pub record SameFiles (old new : Accounts) : Type 0 where
  pub closed : new.closed ≡ old.closed
  pub last : new.last ≡ old.last
  pub room : new.room ≡ old.room

-- what is told of numbers is the same
pub record SameNumbers (old new : Accounts) : Type 0 where
  pub flushed : SameFlushed old new
  pub noted : new.noted ≡ old.noted
  pub flushing : new.flushing ≡ old.flushing
  pub oldest : SameOldest old new

-- an entry of this number, with cells of these families, went into the current file
pub record IsNoted (old new : Accounts) (r n : ℕ) (families : List (List ℕ)) : Type 0 where
  pub noted : new.noted ≡ slice_set old.noted r n
  pub current : (q : ℕ) (f : List ℕ) → number_of new.current q f ≡ (if r == q && has_family families f then n else number_of old.current q f)
  pub oldest : (q : ℕ) (f : List ℕ) → oldest_at new q f
      ≡ (if r == q && has_family families f then first_given (oldest_at old q f) n else oldest_at old q f)
  pub since : (q : ℕ) (f : List ℕ) → since_at new q f
      ≡ (if r == q && has_family families f then (if get_or old.flushing q 0 == 0 then since_at old q f else first_given (since_at old q f) n)
      else since_at old q f)
  pub flushed : SameFlushed old new
  pub flushing : new.flushing ≡ old.flushing
  pub files : SameFiles old new

-- a flush of the region up to this number began: no number up to it is noted from here on
pub record IsStarted (old new : Accounts) (r n : ℕ) : Type 0 where
  pub noted : new.noted ≡ slice_set old.noted r n
  pub flushing : new.flushing ≡ slice_set old.flushing r n
  pub flushed : SameFlushed old new
  pub oldest : SameOldest old new
  pub current : new.current ≡ old.current
  pub files : SameFiles old new

-- a flush came off: its family, or each family, is flushed up to its number
pub record IsCompleted (old new : Accounts) (flush : Flush) : Type 0 where
  pub flushed : (q : ℕ) (f : List ℕ) → flushed_at new q f ≡ (if flush.region == q && is_for flush.family f then flush.number else flushed_at old q f)
  pub whole : new.whole ≡ (if length flush.family == 0 then slice_set old.whole flush.region flush.number else old.whole)
  pub oldest : (q : ℕ) (f : List ℕ) → oldest_at new q f ≡ (if flush.region == q && is_for flush.family f then since_at old q f else oldest_at old q f)
  pub since : (q : ℕ) (f : List ℕ) → since_at new q f ≡ (if flush.region == q then 0 else since_at old q f)
  pub flushing : new.flushing ≡ slice_set old.flushing flush.region 0
  pub noted : new.noted ≡ old.noted
  pub current : new.current ≡ old.current
  pub files : SameFiles old new

-- a flush failed: what is flushed stays
pub record IsAborted (old new : Accounts) (flush : Flush) : Type 0 where
  pub flushed : SameFlushed old new
  pub oldest : (q : ℕ) (f : List ℕ) → oldest_at new q f ≡ oldest_at old q f
  pub since : (q : ℕ) (f : List ℕ) → since_at new q f ≡ (if flush.region == q then 0 else since_at old q f)
  pub flushing : new.flushing ≡ slice_set old.flushing flush.region 0
  pub noted : new.noted ≡ old.noted
  pub current : new.current ≡ old.current
  pub files : SameFiles old new

-- a flush began and came off, with nothing between
pub record IsFlushed (old new : Accounts) (flush : Flush) : Type 0 where
  pub begun : Accounts
  pub started : IsStarted old begun flush.region flush.number
  pub completed : IsCompleted begun new flush
