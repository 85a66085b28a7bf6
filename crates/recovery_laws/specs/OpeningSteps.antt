-- How one file changes while a store is opened.
use Rattle.std.specs.Prelude.{◌≡◌, ◌⊎◌, ◌↔◌, ◌≤◌, ℕ, List, [], Contains}
use Rattle.cell_model.specs.Order.{VersionKey, Payload}
use Rattle.log_model.specs.declared.name.Name.{Name}
use Rattle.log_model.specs.declared.name.NameKind.TheVariants as kinds
use Rattle.log_model.specs.Entry.{Entry}
use Rattle.log_model.specs.StoreText.{Store}
use Rattle.log_model.specs.Files.{Files, content, SameBut, IsLogFile}
use Rattle.log_model.specs.Recovered.{Holds, IsCounting, IsUnflushed}
use Rattle.recovery_laws.specs.Kept.{IsNotThere}
use Rattle.recovery_laws.specs.Laws.{IsFlushedEntry}

-- a store file that isn't there changes, and isn't there
pub record Hides (name : Name) (old new : Files) : Type 0 where
  pub kind : name.kind ≡ kinds.Store
  pub others : SameBut name old new
  pub before : IsNotThere (content old name)
  pub after : IsNotThere (content new name)

-- an entry of the region with this sequence id, or a greater one, stands in an edits file
pub record IsEdited (files : Files) (r n : ℕ) : Type 0 where
  pub name : Name
  pub entries : List Entry
  pub file : IsLogFile files name entries
  pub kind : name.kind ≡ kinds.Edits
  pub last : Entry
  pub member : Contains entries last
  pub of : last.region ≡ r
  pub reached : n ≤ last.number

-- a store of no family with all that is unflushed of its region, up to an entry that stands in an edits file, or to what
-- a store file reaches
pub record IsWholeCut (files : Files) (r : ℕ) (s : Store) : Type 0 where
  pub region : s.region ≡ r
  pub scope : s.scope ≡ 0
  pub family : s.family ≡ []
  pub holds : (v : VersionKey) (p : Payload) → Holds s v p ↔ IsUnflushed files r v p
  pub reached : IsEdited files r s.to ⊎ ((name : Name) × (t : Store) × IsCounting files r name t × (s.to ≤ t.to))

-- each of these entries is flushed, or stands in an edits file
abbrev pub AreKept : Files → List Entry → Type 0
AreKept files entries = (e : Entry) → Contains entries e → ((name : Name) × (es : List Entry) × (name.kind ≡ kinds.Edits) × IsLogFile files name es × Contains es e) ⊎ IsFlushedEntry files e
