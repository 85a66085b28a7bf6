-- What was made of the files of a store since some moment, and which files are like that.
use Rattle.std.specs.Prelude.{◌≡◌, ◌⊎◌, ◌↔◌, ◌<◌, ◌≤◌, ◌==◌, ◌||◌, ◌&&◌, if◌then◌else◌, nat_eq, Bool, ℕ, List, [], ◌∷◌, ◌++◌, length, Contains, Option, Some}
use Rattle.std.specs.Cmp.Lexicographic.{pointwise}
use Rattle.cell_model.specs.Order.{VersionKey, Payload}
use Rattle.log_model.specs.Entry.{Entry}
use Rattle.log_model.specs.declared.name.Name.{Name}
use Rattle.log_model.specs.Files.{Files, HoldsEntries, IsAbsent, IsLogged, IsStoreFile, IsFit}
use Rattle.log_model.specs.StoreText.{Store, IsThere}
use Rattle.log_model.specs.Recovered.{Puts, HasFamily, Holds, IsFor, IsRecovered, IsStored, FlushesTo, IsFlushed, IsLast}
use Rattle.recovery_laws.specs.Change.{last_of}

-- the last sequence id of each region, after one more entry
abbrev pub raised : (ℕ → ℕ) → Entry → ℕ → ℕ
raised last e r = if e.region == r then e.number else last r

-- the last sequence id of each region, after these entries
abbrev pub lasts : (ℕ → ℕ) → List Entry → ℕ → ℕ
lasts last es r = last_of r (last r) es

-- each entry has a sequence id above the last one of its region
abbrev pub AreRising : (ℕ → ℕ) → List Entry → Type 0
AreRising last [] = Unit {0}
AreRising last (e ∷ es) = (last e.region < e.number) × AreRising (raised last e) es

-- no two of these entries have one sequence id
abbrev pub AreApart : List Entry → Type 0
AreApart [] = Unit {0}
AreApart (e ∷ es) = ((d : Entry) → Contains es d → d.number ≡ e.number → ⊥) × AreApart es

pub record Kept : Type 0 where
  -- the files as they read at the start, and the last sequence id of each region then, up to which it is flushed
  pub base : Files
  pub first : ℕ → ℕ
  -- the entries committed since then, and those that are staged, in order
  pub durable : List Entry
  pub staged : List Entry
  -- what is flushed of each family of a region now; of the empty one, what is flushed of the whole region
  pub flushed : ℕ → List ℕ → ℕ

-- one of these entries that are flushed puts it
abbrev pub PutUpTo : List Entry → ℕ → ℕ → VersionKey → Payload → Type 0
PutUpTo entries n r v p = (e : Entry) × Contains entries e × (e.region ≡ r) × (e.number ≤ n) × Puts e v p

-- files that hold the base and the durable entries: those flushed in stores, the others in logs
pub record IsLike (k : Kept) (files : Files) : Type 0 where
  pub fit : IsFit files
  pub flushed : (r : ℕ) (f : List ℕ) → IsFlushed files r f (k.flushed r f)
  pub stored : (r : ℕ) (v : VersionKey) (p : Payload) → IsStored files r v p ↔ (IsRecovered k.base r v p ⊎ PutUpTo k.durable (k.flushed r v.key.family) r v p)
  -- an entry with a cell that isn't flushed is logged, and one that is logged with such a cell is durable
  pub sure : (e : Entry) (f : List ℕ) → Contains k.durable e → HasFamily e f → k.flushed e.region f < e.number → IsLogged files e
  pub only : (e : Entry) (f : List ℕ) → IsLogged files e → HasFamily e f → ((n : ℕ) → FlushesTo files e.region f n → n < e.number) → Contains k.durable e
  pub numbers : (e : Entry) → IsLogged files e → e.number ≤ lasts k.first k.durable e.region

-- what it counts is in order
pub record IsOrderly (k : Kept) : Type 0 where
  pub begun : (r : ℕ) → IsLast k.base r (k.first r)
  pub rising : AreRising (lasts k.first k.durable) k.staged
  -- each durable entry has a cell
  pub given : (e : Entry) → Contains k.durable e → (f : List ℕ) × HasFamily e f
  pub from : (r : ℕ) (f : List ℕ) → k.first r ≤ k.flushed r f
  pub low : (r : ℕ) (f : List ℕ) → k.flushed r f ≤ lasts k.first k.durable r

-- the same with the staged entries committed
abbrev pub committed : Kept → Kept
committed k = record { base = k.base; first = k.first; durable = k.durable ++ k.staged; staged = []; flushed = k.flushed }

-- the same with one entry more staged
abbrev pub with_staged : Kept → Entry → Kept
with_staged k e = record { base = k.base; first = k.first; durable = k.durable; staged = k.staged ++ e ∷ []; flushed = k.flushed }

-- in an image a store file isn't there: it is absent, has at most one byte, or its gate is closed
abbrev pub IsNotThere : Option (List ℕ) → Type 0
IsNotThere image = (bytes : List ℕ) → image ≡ Some bytes → IsThere bytes → ⊥

-- whether a flush of this family, or of all where it is empty, is one of the other
abbrev pub is_for : List ℕ → List ℕ → Bool
is_for family f = length family == 0 || pointwise nat_eq family f

-- the same with one family of a region, or all of them, flushed up to this sequence id
abbrev pub flushed_to : Kept → ℕ → List ℕ → ℕ → Kept
flushed_to k r family n = record { base = k.base; first = k.first; durable = k.durable; staged = k.staged; flushed = λ q f. if r == q && is_for family f then n else k.flushed q f }

-- a store holds exactly what the durable entries of the region put of this family, or of all where it is empty, above what
-- is flushed of each family and up to n
pub record IsCut (k : Kept) (r : ℕ) (family : List ℕ) (n : ℕ) (s : Store) : Type 0 where
  pub region : s.region ≡ r
  pub scope : s.scope ≡ 0
  pub of : s.family ≡ family
  pub to : s.to ≡ n
  pub more : (f : List ℕ) → IsFor family f → k.flushed r f ≤ n
  pub cells : (v : VersionKey) (p : Payload) → Holds s v p
      ↔ ((e : Entry) × Contains k.durable e × (e.region ≡ r) × (k.flushed r v.key.family < e.number) × (e.number ≤ n) × IsFor family v.key.family × Puts e v p)

-- no store file of the scope 1 has a greater number than this one
abbrev pub IsNotReplaced : Files → Name → Type 0
IsNotReplaced files name = (other : Name) (t : Store) → IsStoreFile files name.region other t → t.scope ≡ 1 → other.number ≤ name.number

-- there is no log and no edits file
abbrev pub HasNoLogs : Files → Type 0
HasNoLogs J = (m : Name) → HoldsEntries m.kind → IsAbsent J m

-- what is kept at the start, where each region is flushed up to its last sequence id
abbrev pub start_of : Files → (ℕ → ℕ) → Kept
start_of F flushed = record { base = F; first = flushed; durable = []; staged = []; flushed = λ r f. flushed r }
