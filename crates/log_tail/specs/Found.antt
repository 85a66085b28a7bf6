-- What the names of a store's files say of the log of a number.
use Rattle.std.specs.Prelude.{◌≡◌, ◌⊎◌, ◌↔◌, ◌<◌, ℕ, List, Contains, cond, IsTrue, Option, Some, None}
use Rattle.log_model.specs.declared.name.Name.{Name}
use Rattle.log_model.specs.declared.name.NameKind.{NameKind}
use Rattle.log_model.specs.declared.name.NameKind.TheVariants as kinds
use Rattle.log_model.specs.Files.{Files, Reads}
use Rattle.chronicle_model.specs.Chronicle.{log_name, old_name}
use Rattle.log_tail.specs.declared.finding.Found.{Found}
use Rattle.log_tail.specs.declared.finding.Seen.{Seen}
use Rattle.log_tail.specs.Reads.{HasHigher, HasNoLog, IsCounted}

-- one of these names is of this kind, and has this number
abbrev pub HasName : List Name → NameKind → ℕ → Type 0
HasName names kind number = (name : Name) × Contains names name × (name.kind ≡ kind) × (name.number ≡ number)

-- one of them is a log or an old log with a greater number
abbrev pub HasHigherName : List Name → ℕ → Type 0
HasHigherName names number = (name : Name) × Contains names name × ((name.kind ≡ kinds.Log) ⊎ (name.kind ≡ kinds.Old)) × (number < name.number)

-- what was seen is what is among these names
pub record HasSeen (names : List Name) (number : ℕ) (seen : Seen) : Type 0 where
  pub log : IsTrue seen.has_log ↔ HasName names kinds.Log number
  pub old : IsTrue seen.has_old ↔ HasName names kinds.Old number
  pub higher : IsTrue seen.has_higher ↔ HasHigherName names number

-- the name that counts, by what was seen
abbrev pub counted_name : Seen → ℕ → Option Name
counted_name seen number = cond seen.has_log (Some (log_name number)) (cond seen.has_old (Some (old_name number)) None)

-- the file that counts, which is there; none where there is no log of the number
abbrev pub IsTheCounted : Files → ℕ → Option Name → Type 0
IsTheCounted files number None = HasNoLog files number
IsTheCounted files number (Some name) = IsCounted files number name × ((bytes : List ℕ) × Reads files name bytes)

pub record HasFound (files : Files) (number : ℕ) (found : Found) : Type 0 where
  pub name : IsTheCounted files number found.name
  pub higher : IsTrue found.has_higher ↔ HasHigher files number
