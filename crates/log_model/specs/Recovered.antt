-- What the files of a store recover to: for each region the versions of cells that are stored, and those of
-- logged entries above what was flushed of their family. Sets are given as what stands in them.
use Rattle.std.specs.Prelude.{◌≡◌, ℕ, ◌<◌, ◌≤◌, ◌⊎◌, ◌↔◌, ◌==◌, Bool, List, [], ◌∷◌, filter, Contains, Some}
use Rattle.std.specs.FinMap.{get, empty}
use Rattle.cell_model.specs.Cell.{Cell}
use Rattle.cell_model.specs.Order.{VersionKey, Payload, payload_of, Content, put_cells, NumberedCell, version_of}
use Rattle.log_model.specs.declared.name.Name.{Name}
use Rattle.log_model.specs.Entry.{Entry}
use Rattle.log_model.specs.StoreText.{Store}
use Rattle.log_model.specs.Files.{Files, IsLogged, IsStoreFile, IsFit}

-- n is the greatest number with P, or 0 where there is none
pub record IsGreatest (P : ℕ → Type 0) (n : ℕ) : Type 0 where
  pub reached : P n ⊎ (n ≡ 0)
  pub bound : (m : ℕ) → P m → m ≤ n

-- a store file of the region that no store file of the scope 1 with a greater number replaces
pub record IsCounting (files : Files) (r : ℕ) (name : Name) (s : Store) : Type 0 where
  pub file : IsStoreFile files r name s
  pub stands : (other : Name) (t : Store) → IsStoreFile files r other t → t.scope ≡ 1 → other.number ≤ name.number

-- a store of no family is for all families
abbrev pub IsFor : List ℕ → List ℕ → Type 0
IsFor family f = (family ≡ []) ⊎ (family ≡ f)

-- A counting store file of the region that is for this family goes up to this sequence id. The empty family, which no
-- cell has, asks for the stores of all families alone: what is flushed of it is flushed of the whole region.
abbrev pub FlushesTo : Files → ℕ → List ℕ → ℕ → Type 0
FlushesTo files r f n = (name : Name) × (s : Store) × IsCounting files r name s × IsFor s.family f × (s.to ≡ n)

-- the greatest sequence id that is flushed of a family
abbrev pub IsFlushed : Files → ℕ → List ℕ → ℕ → Type 0
IsFlushed files r f n = IsGreatest (FlushesTo files r f) n

-- and of the whole region
abbrev pub IsWhole : Files → ℕ → ℕ → Type 0
IsWhole files r n = IsFlushed files r [] n

-- the store holds this payload at this version
abbrev pub Holds : Store → VersionKey → Payload → Type 0
Holds s v p = (x : NumberedCell) × Contains s.cells x × (version_of x ≡ v) × (payload_of x.1 ≡ p)

-- of the counting store files that hold a version, the one with the greatest number gives the payload
pub record IsStored (files : Files) (r : ℕ) (v : VersionKey) (p : Payload) : Type 0 where
  pub name : Name
  pub store : Store
  pub file : IsCounting files r name store
  pub holds : Holds store v p
  pub newest : (other : Name) (s : Store) (q : Payload) → IsCounting files r other s → Holds s v q → other.number ≤ name.number

-- the entry puts this payload at this version, the last of its cells with that key
abbrev pub Puts : Entry → VersionKey → Payload → Type 0
Puts e v p = get (put_cells empty e.number e.batch.cells) v ≡ Some p

-- a logged entry puts it, and what is flushed of the cell's family is below it
pub record IsUnflushed (files : Files) (r : ℕ) (v : VersionKey) (p : Payload) : Type 0 where
  pub entry : Entry
  pub logged : IsLogged files entry
  pub region : entry.region ≡ r
  pub above : (n : ℕ) → FlushesTo files r v.key.family n → n < entry.number
  pub puts : Puts entry v p

-- what the files recover to for the region
abbrev pub IsRecovered : Files → ℕ → VersionKey → Payload → Type 0
IsRecovered files r v p = IsStored files r v p ⊎ IsUnflushed files r v p

-- a counting store file of the region goes up to it, or a logged entry has it
abbrev pub IsSeen : Files → ℕ → ℕ → Type 0
IsSeen files r n = ((name : Name) × (s : Store) × IsCounting files r name s × (s.to ≡ n)) ⊎ ((e : Entry) × IsLogged files e × (e.region ≡ r) × (e.number ≡ n))

-- the greatest sequence id seen
abbrev pub IsLast : Files → ℕ → ℕ → Type 0
IsLast files r n = IsGreatest (IsSeen files r) n

-- a content holds exactly what stands in a set
abbrev pub IsContent : (VersionKey → Payload → Type 0) → Content → Type 0
IsContent held content = (v : VersionKey) (p : Payload) → (get content v ≡ Some p) ↔ held v p

-- sound files, and files that are fit too and recover to the same for a region, up to the same sequence id
pub record RecoversAlike (old new : Files) (r : ℕ) : Type 0 where
  pub fit : IsFit new
  pub content : (v : VersionKey) (p : Payload) → IsRecovered old r v p ↔ IsRecovered new r v p
  pub last : (n : ℕ) → IsLast old r n ↔ IsLast new r n

-- the entry has a cell of this family
abbrev pub HasFamily : Entry → List ℕ → Type 0
HasFamily e f = (c : Cell) × Contains e.batch.cells c × (c.family ≡ f)

-- a closed log with these entries is wholly flushed, where this is what is flushed of each family of a region
abbrev pub IsWhollyFlushed : (ℕ → List ℕ → ℕ) → List Entry → Type 0
IsWhollyFlushed flushed entries = (e : Entry) (f : List ℕ) → Contains entries e → HasFamily e f → e.number ≤ flushed e.region f

-- the content with these entries put in, one after the other
abbrev pub put_entries : Content → List Entry → Content
put_entries m [] = m
put_entries m (e ∷ es) = put_entries (put_cells m e.number e.batch.cells) es

-- the entries of one region, in the order of the list
abbrev pub is_of : ℕ → Entry → Bool
is_of r e = e.region == r

abbrev pub entries_of : ℕ → List Entry → List Entry
entries_of r es = filter (is_of r) es
