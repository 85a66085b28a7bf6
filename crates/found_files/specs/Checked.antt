-- Reading one file more.
use Rattle.std.specs.Prelude.{◌≡◌, ◌⊎◌, ℕ, List, Contains}
use Rattle.log_model.specs.declared.name.Name.{Name}
use Rattle.log_model.specs.declared.name.NameKind.TheVariants as kinds
use Rattle.log_model.specs.declared.damage.Damage.{Damage}
use Rattle.log_model.specs.declared.damage.Damage.TheVariants as damages
use Rattle.log_model.specs.Files.{Files, HoldsEntries}
use Rattle.log_model.specs.Damage.{IsDamagedFile}
use Rattle.found_files.specs.declared.found.FoundFiles.{FoundFiles}
use Rattle.found_files.specs.Names.{IsBadAmong}
use Rattle.found_files.specs.Found.{ReadsEntries, ReadsStore}
use Rattle.found_files.specs.Refusal.{IsDamageAt}

-- a file was read
pub record ReadsFile (told : Type 0) (files : Files) (name : Name) (old new : FoundFiles) : Type 0 where
  pub entries : HoldsEntries name.kind → ReadsEntries told files name old.entries.items new.entries.items
  pub no_entries : (HoldsEntries name.kind → ⊥) → new.entries.items ≡ old.entries.items
  pub store : name.kind ≡ kinds.Store → ReadsStore told files name old.stores.items new.stores.items
  pub no_store : (name.kind ≡ kinds.Store → ⊥) → new.stores.items ≡ old.stores.items

-- a file with a good name was read
pub record ReadsOne (told : Type 0) (files : Files) (all : List Name) (name : Name) (old new : FoundFiles) : Type 0 where
  pub good : ¬ IsBadAmong all name
  pub file : ReadsFile told files name old new

-- the name is bad, or it isn't and the bytes are damaged
abbrev pub TellsOne : Files → List Name → Name → Damage → Type 0
TellsOne files all name damage = (IsBadAmong all name × (damage ≡ damages.Bytes name 0)) ⊎ ((¬ IsBadAmong all name) × IsDamageAt files name damage)

-- none of these files is damaged
abbrev pub AreWhole : Files → List Name → Type 0
AreWhole files names = (m : Name) (at : ℕ) → Contains names m → ¬ IsDamagedFile files m at
