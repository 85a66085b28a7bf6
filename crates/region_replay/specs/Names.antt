-- Names of a region's files.
use Rattle.std.specs.Prelude.{◌≡◌, ◌⊎◌, ℕ, List, Contains}
use Rattle.log_model.specs.declared.name.Name.{Name}
use Rattle.log_model.specs.declared.name.NameKind.TheVariants as kinds
use Rattle.log_model.specs.Files.{Files, Reads}

abbrev pub store_name : ℕ → ℕ → Name
store_name region number = record { kind = kinds.Store; region = region; number = number }

-- the name is of no store and no edits file of the region
abbrev pub IsElsewhere : ℕ → Name → Type 0
IsElsewhere r m = (m.kind ≡ kinds.Store) ⊎ (m.kind ≡ kinds.Edits) → m.region ≡ r → ⊥

-- a file of each of these names is there
abbrev pub AreThere : Files → List Name → Type 0
AreThere files names = (m : Name) → Contains names m → ∥ ((c : List ℕ) × Reads files m c) ∥₁
