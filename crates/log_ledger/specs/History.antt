-- What a device has made of its logs since it was started.
use Rattle.std.specs.Prelude.{ℕ, Bool, not, ◌==◌, List, [], ◌∷◌, ◌++◌, filter, Option, Some, None}
use Rattle.log_model.specs.Entry.{Entry}
use Rattle.log_model.specs.Files.{Files}
use Rattle.recovery_laws.specs.Kept.{Kept, committed, with_staged, flushed_to, start_of}

-- a log file that was closed, with its entries
pub record ClosedLog : Type 0 where
  pub number : ℕ
  pub entries : List Entry

pub record History : Type 0 where
  pub kept : Kept
  -- the closed logs that aren't archived, oldest first
  pub logs : List ClosedLog
  -- the entries committed into the current file
  pub current : List Entry

-- the history at the start
abbrev pub started_in : Files → (ℕ → ℕ) → History
started_in F flushed = record { kept = start_of F flushed; logs = []; current = [] }

-- the same with one entry more staged
abbrev pub staged_in : History → Entry → History
staged_in h e = record { kept = with_staged h.kept e; logs = h.logs; current = h.current }

-- the same with the staged entries committed
abbrev pub committed_in : History → History
committed_in h = record { kept = committed h.kept; logs = h.logs; current = h.current ++ h.kept.staged }

-- the same with the current file closed under its number
abbrev pub closed_in : History → ℕ → History
closed_in h number = record { kept = h.kept; logs = h.logs ++ record { number = number; entries = h.current } ∷ []; current = [] }

-- the family that a flush is of, empty where it is of all
abbrev pub family_in : Option (List ℕ) → List ℕ
family_in None = []
family_in (Some f) = f

-- the same with one family of a region, or all where it is empty, flushed up to this sequence id
abbrev pub flushed_in : History → ℕ → List ℕ → ℕ → History
flushed_in h r family n = record { kept = flushed_to h.kept r family n; logs = h.logs; current = h.current }

-- the same with these closed logs
abbrev pub with_logs : History → List ClosedLog → History
with_logs h logs = record { kept = h.kept; logs = logs; current = h.current }

-- a closed log has another number than this
abbrev pub is_other : ℕ → ClosedLog → Bool
is_other number c = not (c.number == number)

-- the same without the closed log of this number
abbrev pub archived_in : History → ℕ → History
archived_in h number = record { kept = h.kept; logs = filter (is_other number) h.logs; current = h.current }
