-- What a call ships of a chronicle, from a position on.
use Rattle.std.specs.Prelude.{◌≡◌, ◌⊎◌, ◌≤◌, ◌<◌, ◌+◌, ℕ, List, [], ◌∷◌, ◌++◌, Option, Some, None}
use Rattle.cell_model.specs.Lists.{IsPrefix}
use Rattle.log_model.specs.Files.{Files}
use Rattle.chronicle_model.specs.Chronicle.{Placed, Position, IsChronicle, behind}
use Rattle.chronicle_model.specs.Growth.{IsReached}
use Rattle.chronicle_model.specs.Shipping.{Step}
use Rattle.ship_queue.specs.Course.{IsText}
use Rattle.ship_queue.specs.Messages.{Message, Entry_of, Record_of, shipped_in, recorded_in}

-- Each record among the messages has a position after which the chronicle goes on just after what was shipped before it.
abbrev pub AreRecords : List Placed → Position → List Placed → List Message → Type 0
AreRecords c p done [] = Unit {0}
AreRecords c p done (Entry_of x ∷ ms) = AreRecords c p (done ++ x ∷ []) ms
AreRecords c p done (Record_of q ∷ ms) = (behind c p ≡ done ++ behind c q) × AreRecords c p done ms

-- A position is recorded after each 64 entries, and nowhere else but at the end: before these messages so many were shipped
-- since the last record.
abbrev pub AreRecordedEach : ℕ → List Message → Type 0
AreRecordedEach n [] = n < 64
AreRecordedEach n (Entry_of x ∷ ms) = AreRecordedEach (n + 1) ms
AreRecordedEach n (Record_of q ∷ ms) = ((n ≡ 64) × AreRecordedEach 0 ms) ⊎ ((n < 64) × (ms ≡ []))

-- They ship a beginning of what stands after a position, and record nothing that they don't ship, after each 64 entries.
pub record IsShip (c : List Placed) (p : Position) (ms : List Message) : Type 0 where
  pub begins : IsPrefix (shipped_in ms) (behind c p)
  pub records : AreRecords c p [] ms
  pub each : AreRecordedEach 0 ms

-- They ship all of it, and record a last position at the end, after which there is nothing.
pub record IsWholeShip (c : List Placed) (p : Position) (ms : List Message) (q : Position) : Type 0 where
  pub shipped : shipped_in ms ≡ behind c p
  pub front : List Message
  pub last : ms ≡ front ++ Record_of q ∷ []
  pub none : behind c q ≡ []

-- of the chronicle of these files
abbrev pub ShipsBeginning : Files → Position → List Message → Type 0
ShipsBeginning files p ms = (c : List Placed) → IsChronicle files c → IsShip c p ms

-- exactly what stands between the two positions
abbrev pub ShipsUpTo : Files → Position → List Message → Position → Type 0
ShipsUpTo files p ms q = (c : List Placed) → IsChronicle files c → behind c p ≡ shipped_in ms ++ behind c q

abbrev pub ShipsAll : Files → Position → List Message → Position → Type 0
ShipsAll files p ms q = (c : List Placed) → IsChronicle files c → IsWholeShip c p ms q

-- A call that its peer failed shipped a beginning of what stands after the position. It recorded nothing, or a position up to
-- which it shipped all.
pub record IsPartShip (c : List Placed) (p : Position) (before after : List Message) : Type 0 where
  pub more : List Placed
  pub shipped : shipped_in after ≡ shipped_in before ++ more
  pub begins : IsPrefix more (behind c p)
  pub recorded : (recorded_in after ≡ recorded_in before)
      ⊎ ((q : Position) × (recorded_in after ≡ Some q) × (done : List Placed) × IsPrefix done more × (behind c p ≡ done ++ behind c q))

-- the second position is the first one, or further on
abbrev pub IsOnward : Position → Position → Type 0
IsOnward p q = (p.file < q.file) ⊎ ((p.file ≡ q.file) × (p.entries ≤ q.entries))

-- a reader that began at the first position stops at the second one
pub record IsStop (files : Files) (p q : Position) : Type 0 where
  pub onward : IsOnward p q
  pub reached : (q ≡ p) ⊎ IsReached files q

-- Since it was told the first messages a peer was shipped a beginning of what stands after the position, and has recorded
-- nothing, or a position where a reader stops.
pub record IsShipStep (files : Files) (c : List Placed) (p : Position) (before after : List Message) : Type 0 where
  pub part : IsPartShip c p before after
  pub stop : (q : Position) → recorded_in after ≡ Some q → (recorded_in before ≡ Some q) ⊎ IsStop files p q

-- what was read between them
abbrev pub HasReadUpTo : List Placed → Position → Position → Type 0
HasReadUpTo c p q = (read : List Placed) × (behind c p ≡ read ++ behind c q)

-- from this log on each one is a text
abbrev pub AreTexts : Files → ℕ → Type 0
AreTexts files from = (number : ℕ) → from ≤ number → IsText files number

-- a recorded position, or the first one where none is recorded yet
abbrev pub position_or : Position → Option Position → Position
position_or first None = first
position_or first (Some q) = q

abbrev pub recorded_or : Position → List Message → Position
recorded_or first ms = position_or first (recorded_in ms)

-- ---- law

-- What a call that begins at the recorded position ships is a step of those after which, with repeats taken out, what was
-- shipped begins the chronicle after the first position.
abbrev pub PartShipIsAStep : Type 0
PartShipIsAStep =
    (first : Position) (c : List Placed) (before after : List Message) → IsPartShip c (recorded_or first before) before after
    → Step first (record { chronicle = c; shipped = shipped_in before; recorded = recorded_or first before })
    (record { chronicle = c; shipped = shipped_in after; recorded = recorded_or first after })

abbrev pub ShipIsAPartShip : Type 0
ShipIsAPartShip = (c : List Placed) (p : Position) (before ms : List Message) → IsShip c p ms → IsPartShip c p before (before ++ ms)
