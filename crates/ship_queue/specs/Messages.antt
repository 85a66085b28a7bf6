-- What a peer is told, in order: entries, and positions up to which it has them all.
use Rattle.std.specs.Prelude.{◌≡◌, ◌⊎◌, List, [], ◌∷◌, ◌++◌, Option, Some, None}
use Rattle.log_model.specs.Entry.{Entry}
use Rattle.chronicle_model.specs.Chronicle.{Placed, Position as ThePosition}
use Rattle.log_tail.specs.declared.position.Position.{Position}

-- the entry with its file and its place there
abbrev pub placed : Position → Entry → Placed
placed at entry = record { file = at.file; place = at.entries; entry = entry }

-- the position after an entry
abbrev pub position_behind : Placed → ThePosition
position_behind x = record { file = x.file; entries = x.place }

-- an entry that is shipped, or a position that is recorded
pub data Message : Type 0 where
  Entry_of : Placed → Message
  Record_of : ThePosition → Message

-- the entries that were shipped
abbrev pub shipped_in : List Message → List Placed
shipped_in [] = []
shipped_in (Entry_of x ∷ ms) = x ∷ shipped_in ms
shipped_in (Record_of q ∷ ms) = shipped_in ms

-- the last position recorded, or this one where there is none
abbrev pub recorded_from : Option ThePosition → List Message → Option ThePosition
recorded_from r [] = r
recorded_from r (Entry_of x ∷ ms) = recorded_from r ms
recorded_from r (Record_of q ∷ ms) = recorded_from (Some q) ms

abbrev pub recorded_in : List Message → Option ThePosition
recorded_in ms = recorded_from None ms

-- After an entry's shipping failed it may have come, and the record stays.
abbrev pub MayHaveCome : List Message → List Message → Placed → Type 0
MayHaveCome before after x =
    ((shipped_in after ≡ shipped_in before) ⊎ (shipped_in after ≡ shipped_in before ++ x ∷ []))
    × (recorded_in after ≡ recorded_in before)

-- After a record failed it may have come, and the entries stay.
abbrev pub MayBeRecorded : List Message → List Message → ThePosition → Type 0
MayBeRecorded before after q =
    (shipped_in after ≡ shipped_in before)
    × ((recorded_in after ≡ recorded_in before) ⊎ (recorded_in after ≡ Some q))
