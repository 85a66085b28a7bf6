-- A log that is written on: what stays of its store's chronicle.
use Rattle.std.specs.Prelude.{◌≡◌, ℕ, ◌<◌, ◌≤◌, ◌⊎◌, List, ◌++◌, length, Option, None}
use Rattle.cell_model.specs.Lists.{IsPrefix}
use Rattle.log_model.specs.Entry.{Entry}
use Rattle.log_model.specs.Files.{Files}
use Rattle.chronicle_model.specs.Chronicle.{bytes_of, LogIsThere, HasLog, Placed, IsChronicle, Position, StandsBefore}

-- each log reads as it did, whether it is an old log by now or not
abbrev pub LogsStay : Files → Files → Type 0
LogsStay old new = (number : ℕ) → bytes_of new number ≡ bytes_of old number

-- the same of the logs below a number
abbrev pub LowerLogsStay : ℕ → Files → Files → Type 0
LowerLogsStay below old new = (number : ℕ) → number < below → bytes_of new number ≡ bytes_of old number

-- The highest log has the entries that it had, and maybe more after them. Lower logs stay; higher ones may begin.
pub record AppendsTo (number : ℕ) (old new : Files) : Type 0 where
  pub highest : (other : ℕ) → number < other → bytes_of old other ≡ None
  pub lower : LowerLogsStay number old new
  pub entries : List Entry
  pub ended : Option ℕ
  pub had : HasLog old number entries ended
  pub more : List Entry
  pub ended_now : Option ℕ
  pub has : HasLog new number (entries ++ more) ended_now

-- The chronicle before begins the one after, and each log below another one stays. No log goes, and each has the entries that it
-- had, and maybe more after them.
pub record Prolongs (old new : Files) : Type 0 where
  pub begins : (c d : List Placed) → IsChronicle old c → IsChronicle new d → IsPrefix c d
  pub lower : (number higher : ℕ) → number < higher → LogIsThere old higher → bytes_of new number ≡ bytes_of old number
  pub there : (number : ℕ) → LogIsThere old number → LogIsThere new number
  pub longer : (number : ℕ) (entries : List Entry) (ended : Option ℕ) → HasLog old number entries ended
      → (more : List Entry) × (ended_now : Option ℕ) × HasLog new number (entries ++ more) ended_now

-- A reader stops at such a position: a higher log is there, or the position's own has so many entries.
abbrev pub IsReached : Files → Position → Type 0
IsReached files p =
    ((higher : ℕ) × (p.file < higher) × LogIsThere files higher)
    ⊎ ((entries : List Entry) × (ended : Option ℕ) × HasLog files p.file entries ended × (p.entries ≤ length entries))

-- The highest log has no end: more entries may come in it.
abbrev pub IsGoingOn : Files → Type 0
IsGoingOn files =
    (number : ℕ) (entries : List Entry) (ended : Option ℕ) → HasLog files number entries ended
    → ((higher : ℕ) → number < higher → bytes_of files higher ≡ None) → ended ≡ None

-- ---- laws

abbrev pub ChronicleIsOne : Type 0
ChronicleIsOne = (files : Files) (c d : List Placed) → IsChronicle files c → IsChronicle files d → c ≡ d

abbrev pub AppendingProlongs : Type 0
AppendingProlongs = (number : ℕ) (old new : Files) → AppendsTo number old new → Prolongs old new

abbrev pub LaterEntriesAreBehind : Type 0
LaterEntriesAreBehind =
    (old new : Files) (c more : List Placed) (p : Position) → Prolongs old new → IsChronicle old c → IsChronicle new (c ++ more)
    → IsReached old p → StandsBefore p more

abbrev pub ReachedStays : Type 0
ReachedStays = (old new : Files) (p : Position) → Prolongs old new → IsReached old p → IsReached new p

abbrev pub SameLogsGoOn : Type 0
SameLogsGoOn = (old new : Files) → LogsStay old new → Prolongs old new × (IsGoingOn old → IsGoingOn new)
