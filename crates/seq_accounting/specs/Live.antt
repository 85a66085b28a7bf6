-- How many families of noted entries are not flushed: what bounds the number of flushes that come off.
use Rattle.std.specs.Prelude.{◌≡◌, ℕ, ◌+◌, ◌^◌, ◌<◌, ◌≤◌, leb, if◌then◌else◌, List, [], ◌∷◌, ◌++◌, length, Contains}
use Rattle.std.specs.List.{AllByRecursion}
use Rattle.seq_accounting.specs.Noted.{Note}

-- of one entry, by what is flushed of each family
abbrev pub live_of : (List ℕ → ℕ) → ℕ → List (List ℕ) → ℕ
live_of flushed n [] = 0
live_of flushed n (f ∷ fs) = (if leb n (flushed f) then 0 else 1) + live_of flushed n fs

-- of the entries of one region
abbrev pub live : (List ℕ → ℕ) → List Note → ℕ
live flushed [] = 0
live flushed (x ∷ xs) = live_of flushed x.number x.families + live flushed xs

-- all of them
abbrev pub families_of : List Note → ℕ
families_of [] = 0
families_of (x ∷ xs) = length x.families + families_of xs

-- so many flushes came off: each took a family of an entry from those that aren't flushed
abbrev pub AreCounted : ℕ → (List ℕ → ℕ) → List Note → Type 0
AreCounted flushes flushed notes = flushes + live flushed notes ≤ families_of notes

-- numbers that rise above the first one, and are no more than the last
abbrev pub AreRisingTo : ℕ → List Note → ℕ → Type 0
AreRisingTo first [] last = first ≤ last
AreRisingTo first (x ∷ xs) last = (first < x.number) × AreRisingTo x.number xs last

-- a flush raised what is flushed, and took the family of an entry that wasn't flushed
pub record Takes (old new : List ℕ → ℕ) (notes : List Note) : Type 0 where
  pub raises : (g : List ℕ) → old g ≤ new g
  pub note : Note
  pub family : List ℕ
  pub there : Contains notes note
  pub has : Contains note.families family
  pub before : old family < note.number
  pub after : note.number ≤ new family

abbrev pub NoteIsCounted : Type 0
NoteIsCounted = (flushes : ℕ) (flushed : List ℕ → ℕ) (notes : List Note) (x : Note)
    → AreCounted flushes flushed notes → AreCounted flushes flushed (notes ++ x ∷ [])

abbrev pub FlushIsCounted : Type 0
FlushIsCounted = (flushes : ℕ) (old new : List ℕ → ℕ) (notes : List Note)
    → Takes old new notes → AreCounted flushes old notes → AreCounted (flushes + 1) new notes

abbrev pub FlushesAreFew : Type 0
FlushesAreFew = (flushes : ℕ) (flushed : List ℕ → ℕ) (notes : List Note) (first last : ℕ)
    → AreCounted flushes flushed notes → AllByRecursion (λ (x : Note). length x.families ≤ 1024) notes → AreRisingTo first notes last
    → last < 2 ^ 48 → flushes < 2 ^ 58
