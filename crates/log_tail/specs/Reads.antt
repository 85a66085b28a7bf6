-- What a tail reads of a store's logs, where it stops, and when it is refused.
use Rattle.std.specs.Prelude.{◌≡◌, ◌⊎◌, ◌<◌, ◌≤◌, ◌+◌, ◌-◌, ◌^◌, ℕ, true, is_some, List, [], ◌∷◌, ◌++◌, length, drop, Option, None, Result, Err}
use Rattle.log_model.specs.declared.name.Name.{Name}
use Rattle.log_model.specs.Entry.{Entry}
use Rattle.log_model.specs.LogText.{IsDamaged}
use Rattle.log_model.specs.Files.{Files, IsAbsent, Reads, key_of}
use Rattle.disk_images.specs.Crash.{DiskView}
use Rattle.file_base.specs.Looking.{OnlyLooks}
use Rattle.chronicle_model.specs.Chronicle.{log_name, old_name, bytes_of, LogIsThere, HasLog, Placed, Position, IsChronicle, behind}
use Rattle.log_tail.specs.declared.refusal.TailRefusal.{TailRefusal}
use Rattle.log_tail.specs.declared.refusal.TailRefusal.TheVariants.{Memory, DiskFault}

-- ---- the log of a position

-- a log with a greater number is there
abbrev pub HasHigher : Files → ℕ → Type 0
HasHigher files number = (higher : ℕ) × (number < higher) × LogIsThere files higher

-- no log of this number is there
abbrev pub HasNoLog : Files → ℕ → Type 0
HasNoLog files number = bytes_of files number ≡ None

-- the file that counts for this number: the log, or the old log where there is no such log
abbrev pub IsCounted : Files → ℕ → Name → Type 0
IsCounted files number name = (name ≡ log_name number) ⊎ (IsAbsent files (log_name number) × (name ≡ old_name number))

-- no more entries are to come in the log: a higher one is there, or it has an end frame (and is not the last that can be named)
abbrev pub IsOver : Files → ℕ → Option ℕ → Type 0
IsOver files number ended = HasHigher files number ⊎ ((number < 2 ^ 64 - 1) × (is_some ended ≡ true))

-- ---- what is read

-- What stands in the log after the position was given. The reader stops before the next log where this one is over, and else
-- after all its entries.
pub record ReadsLog (files : Files) (p : Position) (given : List Entry) (q : Position) : Type 0 where
  pub entries : List Entry
  pub ended : Option ℕ
  pub log : HasLog files p.file entries ended
  pub within : p.entries ≤ length entries
  pub rest : given ≡ drop p.entries entries
  pub stops : (IsOver files p.file ended × (q ≡ record { file = p.file + 1; entries = 0 }))
      ⊎ ((¬ IsOver files p.file ended) × (q ≡ record { file = p.file; entries = length entries }))

-- The log isn't there yet, and no higher one is. Nothing was given, and the reader stays.
pub record AwaitsLog (files : Files) (p : Position) (given : List Entry) (q : Position) : Type 0 where
  pub absent : HasNoLog files p.file
  pub highest : ¬ HasHigher files p.file
  pub first : p.entries ≡ 0
  pub none : given ≡ []
  pub stays : q ≡ p

-- A reader at the first position was given these entries, and stops at the second one.
abbrev pub IsRead : Files → Position → List Entry → Position → Type 0
IsRead files p given q = ReadsLog files p given q ⊎ AwaitsLog files p given q

-- the disk was read, and stays as it was
abbrev pub OnlyReads : DiskView → DiskView → Type 0
OnlyReads old new = (by : ℕ) × OnlyLooks by old new

-- ---- refusals

-- the file that counts for the number is damaged there
pub record IsDamagedAt (files : Files) (number : ℕ) (name : Name) (at : ℕ) : Type 0 where
  pub counts : IsCounted files number name
  pub bytes : List ℕ
  pub reads : Reads files name bytes
  pub damaged : IsDamaged (key_of name) bytes at

-- the position's log has so many entries, fewer than stand before the position
abbrev pub HasFewer : Files → Position → ℕ → Type 0
HasFewer files p has = (entries : List Entry) × (ended : Option ℕ) × HasLog files p.file entries ended × (length entries < p.entries) × (has ≡ length entries)

-- the position's log isn't there, so it has none; but entries stand before the position, or a higher log is there
abbrev pub HasPassed : Files → Position → ℕ → Type 0
HasPassed files p has = HasNoLog files p.file × ((0 < p.entries) ⊎ HasHigher files p.file) × (has ≡ 0)

-- nothing can be read from the position on, as its log has so many entries
abbrev pub IsNoPosition : Files → Position → ℕ → ℕ → Type 0
IsNoPosition files p file has = (file ≡ p.file) × (HasFewer files p has ⊎ HasPassed files p has)

-- it is this refusal, or one of a failure that came before it
abbrev pub IsOrEarlier : {T : Type 0} → Result T TailRefusal → TailRefusal → Type 0
IsOrEarlier result refusal = (result ≡ Err refusal) ⊎ ((result ≡ Err Memory) ⊎ (result ≡ Err DiskFault))

-- ---- law

-- these entries with the places after so many others of a log
abbrev pub placed_behind : ℕ → ℕ → List Entry → List Placed
placed_behind file before [] = []
placed_behind file before (e ∷ es) = record { file = file; place = before + 1; entry = e } ∷ placed_behind file (before + 1) es

-- What a reader is given begins what stands after its position, and the rest stands after the position where it stops.
abbrev pub ReadingGoesOn : Type 0
ReadingGoesOn =
    (files : Files) (c : List Placed) (p q : Position) (given : List Entry) → IsRead files p given q → IsChronicle files c
    → behind c p ≡ placed_behind p.file p.entries given ++ behind c q
