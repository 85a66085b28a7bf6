-- The files of a store, and which of them are sound.
use Rattle.std.specs.Prelude.{◌≡◌, ◌≢◌, ℕ, ◌≤◌, ◌^◌, ◌⊎◌, List, length, Contains, Option, Some, None}
use Rattle.std.specs.declared.cmp.Ordering.{Ordering}
use Rattle.std.specs.Ordering.{nat_cmp, ordering_then}
use Rattle.std.specs.FinMap.{FinMap, get}
use Rattle.log_model.specs.declared.name.Name.{Name}
use Rattle.log_model.specs.declared.name.NameKind.{NameKind}
use Rattle.log_model.specs.declared.name.NameKind.TheVariants as kinds
use Rattle.log_model.specs.Entry.{Entry}
use Rattle.log_model.specs.LogText.{FileKey, IsLogText}
use Rattle.log_model.specs.StoreText.{Store, IsThere, IsStoreText}

abbrev pub rank_of : NameKind → ℕ
rank_of kinds.Log = 0
rank_of kinds.Old = 1
rank_of kinds.Store = 2
rank_of kinds.Edits = 3

-- by kind, region and number
abbrev pub name_cmp : Name → Name → Ordering
name_cmp a b = ordering_then (nat_cmp (rank_of a.kind) (rank_of b.kind)) (ordering_then (nat_cmp a.region b.region) (nat_cmp a.number b.number))

-- the files that are there, as they read
abbrev pub Files : Type 0
Files = FinMap name_cmp (List ℕ)

-- the bytes of the file with this name, None where there is none
abbrev pub content : Files → Name → Option (List ℕ)
content files name = get files name

abbrev pub IsAbsent : Files → Name → Type 0
IsAbsent files name = content files name ≡ None

-- the file reads as these bytes
abbrev pub Reads : Files → Name → List ℕ → Type 0
Reads files name bytes = content files name ≡ Some bytes

-- every other file is the same
abbrev pub SameBut : Name → Files → Files → Type 0
SameBut name old new = (m : Name) → m ≢ name → content new m ≡ content old m

abbrev pub Same : Files → Files → Type 0
Same old new = (m : Name) → content new m ≡ content old m

abbrev pub size_of : Option (List ℕ) → Option ℕ
size_of None = None
size_of (Some bytes) = Some (length bytes)

-- log and old files have region 0
abbrev pub IsName : Name → Type 0
IsName name = (name.kind ≡ kinds.Log) ⊎ (name.kind ≡ kinds.Old) → name.region ≡ 0

abbrev pub HoldsEntries : NameKind → Type 0
HoldsEntries kind = (kind ≡ kinds.Log) ⊎ (kind ≡ kinds.Edits)

abbrev pub key_of : Name → FileKey
key_of name = record { region = name.region; number = name.number }

-- a log or edits file with these entries
pub record IsLogFile (files : Files) (name : Name) (entries : List Entry) : Type 0 where
  pub kind : HoldsEntries name.kind
  pub bytes : List ℕ
  pub there : get files name ≡ Some bytes
  pub ended : Option ℕ
  pub text : IsLogText (key_of name) bytes entries ended

-- the entry stands in a log or edits file
pub record IsLogged (files : Files) (e : Entry) : Type 0 where
  pub name : Name
  pub entries : List Entry
  pub file : IsLogFile files name entries
  pub member : Contains entries e

-- a store file of the region that is there
pub record IsStoreFile (files : Files) (r : ℕ) (name : Name) (s : Store) : Type 0 where
  pub kind : name.kind ≡ kinds.Store
  pub of : name.region ≡ r
  pub bytes : List ℕ
  pub there : get files name ≡ Some bytes
  pub gate : IsThere bytes
  pub text : IsStoreText r bytes s

-- each file is a text of its kind, and no two entries of one region and sequence id differ
pub record IsFit (files : Files) : Type 0 where
  pub logs : (name : Name) (bytes : List ℕ) → HoldsEntries name.kind → get files name ≡ Some bytes → (entries : List Entry) × IsLogFile files name entries
  pub stores : (name : Name) (bytes : List ℕ) → name.kind ≡ kinds.Store → get files name ≡ Some bytes → IsThere bytes → (s : Store) × IsStoreFile files name.region name s
  pub agree : (d e : Entry) → IsLogged files d → IsLogged files e → d.region ≡ e.region → d.number ≡ e.number → d ≡ e

abbrev pub IsPresent : Files → Name → Type 0
IsPresent files name = get files name ≢ None

-- the names are in their ranges too, and no log has the number of an old one
pub record IsSound (files : Files) : Type 0 where
  pub fit : IsFit files
  pub regions : (name : Name) → IsPresent files name → (name.kind ≡ kinds.Store) ⊎ (name.kind ≡ kinds.Edits) → (1 ≤ name.region) × (name.region ≤ 64)
  pub numbers : (name : Name) → IsPresent files name → name.number ≤ 2 ^ 62
  pub apart : (a b : Name) → IsPresent files a → IsPresent files b → a.kind ≡ kinds.Log → b.kind ≡ kinds.Old → a.number ≢ b.number

-- the log file of the greatest number
pub record IsLastLog (files : Files) (name : Name) : Type 0 where
  pub kind : name.kind ≡ kinds.Log
  pub there : IsPresent files name
  pub greatest : (other : Name) → other.kind ≡ kinds.Log → IsPresent files other → other.number ≤ name.number
