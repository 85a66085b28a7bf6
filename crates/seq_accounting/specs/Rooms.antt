-- What a flush that is under way holds.
use Rattle.std.specs.Prelude.{◌≡◌, ℕ, ◌≤◌, List, [], length, Option, Some, None}
use Rattle.seq_accounting.specs.declared.flushing.MarkRoom.{MarkRoom}
use Rattle.seq_accounting.specs.declared.flushing.Spent.{Spent}
use Rattle.seq_accounting.specs.Accounts.{Flush}

-- the family that is flushed, none where all are
abbrev pub family_of : Option MarkRoom → List ℕ
family_of None = []
family_of (Some room) = room.flushed.value.family

-- a mark of the family's flushed number, and one of that it has no number left
pub record HasRoom (r n : ℕ) (room : MarkRoom) : Type 0 where
  pub given : 1 ≤ length room.flushed.value.family
  pub flushed : room.flushed.value ≡ record { region = r; family = room.flushed.value.family; number = n; below = [] }
  pub oldest : room.oldest.value ≡ record { region = r; family = room.flushed.value.family; number = 0; below = [] }

abbrev pub IsRoom : ℕ → ℕ → Option MarkRoom → Type 0
IsRoom r n None = Unit {0}
IsRoom r n (Some room) = HasRoom r n room

abbrev pub flush_of : Spent → Flush
flush_of s = record { region = s.region; family = family_of s.room; number = s.number }

-- two lone marks of one family
pub record HasMarks (room : MarkRoom) : Type 0 where
  pub given : 1 ≤ length room.flushed.value.family
  pub same : room.oldest.value.family ≡ room.flushed.value.family
  pub flushed : room.flushed.value.below ≡ []
  pub oldest : room.oldest.value.below ≡ []

abbrev pub AreMarks : Option MarkRoom → Type 0
AreMarks None = Unit {0}
AreMarks (Some room) = HasMarks room
