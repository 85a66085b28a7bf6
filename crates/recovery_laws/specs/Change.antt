-- What files recover to beside others, and what a file of entries has in them.
use Rattle.std.specs.Prelude.{◌≡◌, ◌≢◌, ◌⊎◌, ◌↔◌, ◌<◌, ◌==◌, if◌then◌else◌, ℕ, List, [], ◌∷◌, Contains, take, Option, Some, None}
use Rattle.cell_model.specs.Order.{VersionKey, Payload}
use Rattle.log_model.specs.declared.name.Name.{Name}
use Rattle.log_model.specs.Entry.{Entry}
use Rattle.log_model.specs.LogText.{IsLogText}
use Rattle.log_model.specs.StoreText.{Store}
use Rattle.log_model.specs.Files.{Files, key_of, IsLogged, IsFit}
use Rattle.log_model.specs.Recovered.{Puts, IsCounting, IsRecovered, FlushesTo, IsLast}

-- one of these entries of the region puts this payload
abbrev pub PutBy : List Entry → ℕ → VersionKey → Payload → Type 0
PutBy entries r v p = (e : Entry) × Contains entries e × (e.region ≡ r) × Puts e v p

-- the new files recover to what the old ones do, together with these entries
abbrev pub RecoversWith : Files → List Entry → Files → Type 0
RecoversWith old more new = (r : ℕ) (v : VersionKey) (p : Payload) → IsRecovered new r v p ↔ (IsRecovered old r v p ⊎ PutBy more r v p)

-- the sequence id of the region's last one of these entries, or n where it has none
abbrev pub last_of : ℕ → ℕ → List Entry → ℕ
last_of r n [] = n
last_of r n (e ∷ es) = last_of r (if e.region == r then e.number else n) es

-- the last sequence ids of the new files are those of the old ones, gone on by these entries
abbrev pub LastsWith : Files → List Entry → Files → Type 0
LastsWith old more new = (r n : ℕ) → IsLast old r n → IsLast new r (last_of r n more)

-- a file reads as a text with these entries and this end
pub record HasText (name : Name) (entries : List Entry) (ended : Option ℕ) (image : Option (List ℕ)) : Type 0 where
  pub bytes : List ℕ
  pub there : image ≡ Some bytes
  pub text : IsLogText (key_of name) bytes entries ended

-- it reads as a text with these entries, or is absent and these are none
abbrev pub HasEntries : Name → List Entry → Option (List ℕ) → Type 0
HasEntries name entries image = ((ended : Option ℕ) × HasText name entries ended image) ⊎ ((image ≡ None) × (entries ≡ []))

-- the new files are fit, and log these entries beside what the old ones log; the same stores count
pub record Grown (old new : Files) (more : List Entry) : Type 0 where
  pub fit : IsFit new
  pub logged : (e : Entry) → IsLogged new e ↔ (IsLogged old e ⊎ Contains more e)
  pub counting : (r : ℕ) (name : Name) (s : Store) → IsCounting new r name s ↔ IsCounting old r name s

-- entries that may stand beside those of the files: where two have one region and sequence id they are the same
pub record Agrees (files : Files) (more : List Entry) : Type 0 where
  pub mixed : (d e : Entry) → IsLogged files d → Contains more e → d.region ≡ e.region → d.number ≡ e.number → d ≡ e
  pub inner : (d e : Entry) → Contains more d → Contains more e → d.region ≡ e.region → d.number ≡ e.number → d ≡ e

-- entries that are new beside those of the files: no entry has the region and sequence id of another one
pub record IsFresh (files : Files) (more : List Entry) : Type 0 where
  pub apart : (d e : Entry) → IsLogged files d → Contains more e → d.region ≡ e.region → d.number ≢ e.number
  pub agree : (d e : Entry) → Contains more d → Contains more e → d.region ≡ e.region → d.number ≡ e.number → d ≡ e
  pub above : (e : Entry) (f : List ℕ) (n : ℕ) → Contains more e → FlushesTo files e.region f n → n < e.number

-- the files are fit, and recover to what the old ones do with the first of these entries, up to the last of them
pub record RecoversSome (old : Files) (more : List Entry) (files : Files) : Type 0 where
  pub fit : IsFit files
  pub count : ℕ
  pub recovered : RecoversWith old (take count more) files
  pub last : LastsWith old (take count more) files
