-- Names that the files of a store must not have, told from the list of all names.
use Rattle.std.specs.Prelude.{◌≡◌, ◌⊎◌, ◌↔◌, ◌<◌, ◌≤◌, ◌^◌, ℕ, List, length, slice_index, Contains}
use Rattle.log_model.specs.declared.name.Name.{Name}
use Rattle.log_model.specs.declared.name.NameKind.TheVariants as kinds

-- one of these names is an old log's of this number
abbrev pub HasOld : List Name → ℕ → Type 0
HasOld names n = (other : Name) × Contains names other × (other.kind ≡ kinds.Old) × (other.number ≡ n)

abbrev pub IsInOrder : List ℕ → Type 0
IsInOrder ns = (i j : ℕ) → i ≤ j → j < length ns → slice_index ns i ≤ slice_index ns j

-- the numbers of the old logs among these names, in order
pub record AreOldNumbers (names : List Name) (numbers : List ℕ) : Type 0 where
  pub in_order : IsInOrder numbers
  pub same : (n : ℕ) → Contains numbers n ↔ HasOld names n

-- a name that sound files don't have: its number, its region, or a log's number that an old log has
abbrev pub IsBadAmong : List Name → Name → Type 0
IsBadAmong names name =
    (2 ^ 62 < name.number)
    ⊎ ((((name.kind ≡ kinds.Store) ⊎ (name.kind ≡ kinds.Edits)) × ((name.region ≡ 0) ⊎ (64 < name.region)))
    ⊎ ((name.kind ≡ kinds.Log) × HasOld names name.number))
