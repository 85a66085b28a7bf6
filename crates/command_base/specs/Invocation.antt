-- One call of the program, seen from outside.
use Rattle.std.specs.Prelude.{◌≡◌, ℕ, List, length, drop}
use Rattle.cell_model.specs.Lists.{IsPrefix}
use Rattle.log_model.specs.Files.{Files, Same}
use Rattle.disk_images.specs.Crash.{DiskView, IsImageNow, Shrinks, Elapses, Throughout}

pub record Invocation : Type 1 where
  -- the bytes that the source had left
  pub script : List ℕ
  pub before : DiskView
  pub after : DiskView
  -- what the sink took in this call
  pub taken : List ℕ

-- of a sink's bytes before and after
abbrev pub invocation : List ℕ → DiskView → DiskView → List ℕ → List ℕ → Invocation
invocation script before after had has = record { script = script; before = before; after = after; taken = drop (length had) has }

abbrev pub IsImageAtEntry : Invocation → Files → Type 0
IsImageAtEntry o J = IsImageNow o.before J

-- No file reads otherwise, and each crash image now was one before.
pub record IsUnchanged (old new : DiskView) : Type 0 where
  pub files : Same old.files new.files
  pub images : Shrinks old new

-- Time went on, and the images of former moments stay.
abbrev pub GoesOn : DiskView → DiskView → Type 0
GoesOn old new = ∥ ((moments : ℕ) × Elapses moments old new) ∥₁

-- At each moment in between each crash image has P; time went on, and the images of former moments stay.
abbrev pub AtEachMoment : (Files → Type 0) → DiskView → DiskView → Type 0
AtEachMoment P old new = ∥ ((moments : ℕ) × Throughout P moments old new) ∥₁

-- At each moment in between each crash image is one of before.
abbrev pub KeepsImages : DiskView → DiskView → Type 0
KeepsImages old new = AtEachMoment (IsImageNow old) old new

-- The sink took a beginning of the line that refuses, and all of it unless a write failed.
pub record IsRefused (line : List ℕ) (sank : Type 0) (taken : List ℕ) : Type 0 where
  pub begins : IsPrefix taken line
  pub whole : (sank → ⊥) → taken ≡ line

-- what a sink took in between
abbrev pub taken_of : List ℕ → List ℕ → List ℕ
taken_of had has = drop (length had) has
