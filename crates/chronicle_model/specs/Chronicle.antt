-- The entries of all logs of a store, old logs too, in the order of their files and places, and positions in that list.
use Rattle.std.specs.Prelude.{◌≡◌, ℕ, ◌+◌, ◌<◌, ◌⊎◌, ◌↔◌, Bool, ◌&&◌, ◌||◌, ◌==◌, nat_lt, List, [], ◌∷◌, filter, Contains, Option, Some, slice_get}
use Rattle.cell_model.specs.Join.{or_else}
use Rattle.log_model.specs.declared.name.Name.{Name}
use Rattle.log_model.specs.declared.name.NameKind.TheVariants as kinds
use Rattle.log_model.specs.Entry.{Entry}
use Rattle.log_model.specs.LogText.{IsLogText}
use Rattle.log_model.specs.Files.{Files, content}

abbrev pub log_name : ℕ → Name
log_name number = record { kind = kinds.Log; region = 0; number = number }

abbrev pub old_name : ℕ → Name
old_name number = record { kind = kinds.Old; region = 0; number = number }

-- the bytes of the log of this number, which may be an old log by now; where both are there the log alone counts
abbrev pub bytes_of : Files → ℕ → Option (List ℕ)
bytes_of files number = or_else (content files (log_name number)) (content files (old_name number))

-- the log of this number is there
abbrev pub LogIsThere : Files → ℕ → Type 0
LogIsThere files number = (bytes : List ℕ) × (bytes_of files number ≡ Some bytes)

-- it is a text with these entries and this end
abbrev pub HasLog : Files → ℕ → List Entry → Option ℕ → Type 0
HasLog files number entries ended =
    (bytes : List ℕ) × (bytes_of files number ≡ Some bytes) × IsLogText (record { region = 0; number = number }) bytes entries ended

-- an entry with the number of its log, and its place there, counted from 1
pub record Placed : Type 0 where
  pub file : ℕ
  pub place : ℕ
  pub entry : Entry

-- the entry stands there
pub record StandsIn (files : Files) (x : Placed) : Type 0 where
  pub entries : List Entry
  pub ended : Option ℕ
  pub log : HasLog files x.file entries ended
  pub at : ℕ
  pub place : x.place ≡ at + 1
  pub is : slice_get entries at ≡ Some x.entry

-- by file, then place
abbrev pub ComesBefore : Placed → Placed → Type 0
ComesBefore x y = (x.file < y.file) ⊎ ((x.file ≡ y.file) × (x.place < y.place))

abbrev pub IsOrdered : List Placed → Type 0
IsOrdered [] = Unit {0}
IsOrdered (x ∷ xs) = ((y : Placed) → Contains xs y → ComesBefore x y) × IsOrdered xs

-- exactly the entries of all logs that are texts, each once, in order
pub record IsChronicle (files : Files) (c : List Placed) : Type 0 where
  pub order : IsOrdered c
  pub exact : (x : Placed) → Contains c x ↔ StandsIn files x

-- ---- positions

-- after all entries of lower logs, and after so many of its own
pub record Position : Type 0 where
  pub file : ℕ
  pub entries : ℕ

abbrev pub is_behind : Position → Placed → Bool
is_behind p x = nat_lt p.file x.file || (p.file == x.file && nat_lt p.entries x.place)

-- what stands after a position
abbrev pub behind : List Placed → Position → List Placed
behind c p = filter (is_behind p) c

-- all of these do
abbrev pub StandsBefore : Position → List Placed → Type 0
StandsBefore p xs = behind xs p ≡ xs
