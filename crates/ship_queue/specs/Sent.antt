-- What a peer was told of entries that are shipped to it one after the other.
use Rattle.std.specs.Prelude.{◌≡◌, ◌⊎◌, ◌+◌, ◌<◌, ℕ, List, [], ◌∷◌, ◌++◌, Option, Some, None}
use Rattle.cell_model.specs.Lists.{IsPrefix}
use Rattle.chronicle_model.specs.Chronicle.{Placed, Position}
use Rattle.ship_queue.specs.Messages.{Message, Entry_of, Record_of, shipped_in, recorded_in, position_behind}

-- each record is of the entry that was shipped last
abbrev pub AreMarks : Option Position → List Message → Type 0
AreMarks last [] = Unit {0}
AreMarks last (Entry_of x ∷ ms) = AreMarks (Some (position_behind x)) ms
AreMarks last (Record_of q ∷ ms) = (last ≡ Some q) × AreMarks last ms

-- A position is recorded after each 64 entries: so many were shipped since the last record, before these messages and after
-- them.
abbrev pub RecordsEach : ℕ → List Message → ℕ → Type 0
RecordsEach n [] m = n ≡ m
RecordsEach n (Entry_of x ∷ ms) m = RecordsEach (n + 1) ms m
RecordsEach n (Record_of q ∷ ms) m = (n ≡ 64) × RecordsEach 0 ms m

-- these entries were shipped, and positions after some of them were recorded
pub record AreSent (ms : List Message) (xs : List Placed) : Type 0 where
  pub shipped : shipped_in ms ≡ xs
  pub marks : AreMarks None ms

-- a beginning of these entries was shipped, and nothing was recorded but positions after some of them
pub record IsCut (before after : List Message) (xs : List Placed) : Type 0 where
  pub more : List Placed
  pub shipped : shipped_in after ≡ shipped_in before ++ more
  pub begins : IsPrefix more xs
  pub recorded : (recorded_in after ≡ recorded_in before)
      ⊎ ((done : List Placed) × (x : Placed) × IsPrefix (done ++ x ∷ []) more × (recorded_in after ≡ Some (position_behind x)))

-- With this message after the first ones, and maybe some after it, a beginning of these entries is sent.
pub record IsNext (n : ℕ) (xs : List Placed) (ms : List Message) (m : Message) : Type 0 where
  pub rest : List Message
  pub sent : List Placed
  pub are : AreSent (ms ++ m ∷ rest) sent
  pub begins : IsPrefix sent xs
  pub since : ℕ
  pub each : RecordsEach n (ms ++ m ∷ rest) since
  pub within : since < 64

module _ {P : Type 0} (has : P → List Message → Type 0) where
  -- the peer was shipped these, after so many since the last record, and so many are behind the last one now
  abbrev pub HasSent : P → P → ℕ → ℕ → List Placed → Type 0
  HasSent old new n m xs = (ms : List Message) → has old ms → (more : List Message) × has new (ms ++ more) × AreSent more xs × RecordsEach n more m

  -- it failed somewhere in them
  abbrev pub HasStopped : P → P → List Placed → Type 0
  HasStopped old new xs = (ms ns : List Message) → has old ms → has new ns → IsCut ms ns xs

  module _ (torn : P → List Message → Message → Type 0) where
    -- it failed within one message, and was told the messages of these entries up to that
    abbrev pub HasTorn : P → P → ℕ → List Placed → Type 0
    HasTorn old new n xs = (ms : List Message) → has old ms → (more : List Message) × (m : Message) × torn new (ms ++ more) m × IsNext n xs more m
