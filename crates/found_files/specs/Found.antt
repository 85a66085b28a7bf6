-- What was read of the files of a store.
use Rattle.std.specs.Prelude.{◌≡◌, ◌⊎◌, ◌<◌, ◌^◌, ℕ, List, [], ◌∷◌, ◌++◌, map, length, Contains, AllPairs, Some}
use Rattle.std.specs.declared.cmp.Ordering.TheVariants.{Less}
use Rattle.std.specs.FinMap.{get}
use Rattle.log_model.specs.declared.name.Name.{Name}
use Rattle.log_model.specs.declared.name.NameKind.TheVariants as kinds
use Rattle.log_model.specs.Entry.{Entry}
use Rattle.log_model.specs.StoreText.{Store, IsStore, IsThere}
use Rattle.log_model.specs.Files.{Files, HoldsEntries, IsLogFile, IsStoreFile, name_cmp}
use Rattle.store_file.specs.Text.{store_in}
use Rattle.found_files.specs.declared.found.FoundEntry.{FoundEntry}
use Rattle.found_files.specs.declared.found.FoundStore.{FoundStore}
use Rattle.found_files.specs.Names.{IsBadAmong}

abbrev pub place_in : Name → Entry → FoundEntry
place_in name e = record { name = name; entry = e }

-- the entries of one file
abbrev pub placed : Name → List Entry → List FoundEntry
placed name es = map (place_in name) es

abbrev pub store_of : FoundStore → Store
store_of x = store_in x.name.region x.text

-- a file of entries was read
pub record ReadsEntries (told : Type 0) (files : Files) (name : Name) (old new : List FoundEntry) : Type 0 where
  pub entries : List Entry
  pub added : new ≡ old ++ placed name entries
  pub file : told → IsLogFile files name entries

-- a store file was read
pub record ReadsStore (told : Type 0) (files : Files) (name : Name) (old new : List FoundStore) : Type 0 where
  pub kept : (x : FoundStore) → Contains old x → Contains new x
  pub each : (x : FoundStore) → Contains new x → Contains old x ⊎ ((x.name ≡ name) × IsStore (store_of x) × (told → IsStoreFile files name.region name (store_of x)))
  pub all : told → (bytes : List ℕ) → get files name ≡ Some bytes → IsThere bytes → (x : FoundStore) × Contains new x × (x.name ≡ name) × IsStoreFile files name.region name (store_of x)
  pub small : told → (bytes : List ℕ) → get files name ≡ Some bytes → length bytes < 2 ^ 64
  pub added : (new ≡ old) ⊎ ((x : FoundStore) × (x.name ≡ name) × (new ≡ old ++ x ∷ []))

-- the stores stand in the order of their names
abbrev pub AreInNameOrder : List FoundStore → Type 0
AreInNameOrder ss = AllPairs (λ x y. name_cmp x.name y.name ≡ Less) ss

-- these files were read: their entries and stores are those of the lists
pub record AreContents (told : Type 0) (files : Files) (names : List Name) (es : List FoundEntry) (ss : List FoundStore) : Type 0 where
  pub logs : told → (m : Name) → Contains names m → HoldsEntries m.kind → (l : List Entry) × IsLogFile files m l × ((e : Entry) → Contains l e → Contains es (place_in m e))
  pub hold : (x : FoundEntry) → Contains es x → HoldsEntries x.name.kind
  pub among : (x : FoundEntry) → Contains es x → Contains names x.name
  pub from_logs : told → (x : FoundEntry) → Contains es x → (l : List Entry) × IsLogFile files x.name l × Contains l x.entry
  pub stores : told → (m : Name) (bytes : List ℕ) → Contains names m → m.kind ≡ kinds.Store → get files m ≡ Some bytes → IsThere bytes → (x : FoundStore) × Contains ss x × (x.name ≡ m) × IsStoreFile files m.region m (store_of x)
  pub from_stores : told → (x : FoundStore) → Contains ss x → IsStoreFile files x.name.region x.name (store_of x)
  pub small : told → (m : Name) (bytes : List ℕ) → Contains names m → m.kind ≡ kinds.Store → get files m ≡ Some bytes → length bytes < 2 ^ 64
  pub each : (x : FoundStore) → Contains ss x → IsStore (store_of x) × ((n : Name) × Contains names n × (x.name ≡ n) × (n.kind ≡ kinds.Store))
  pub rising : told → AreInNameOrder ss

-- the same, and each name is good
pub record AreRead (told : Type 0) (files : Files) (all names : List Name) (es : List FoundEntry) (ss : List FoundStore) : Type 0 where
  pub good : (m : Name) → Contains names m → ¬ IsBadAmong all m
  pub logs : told → (m : Name) → Contains names m → HoldsEntries m.kind → (l : List Entry) × IsLogFile files m l × ((e : Entry) → Contains l e → Contains es (place_in m e))
  pub hold : (x : FoundEntry) → Contains es x → HoldsEntries x.name.kind
  pub among : (x : FoundEntry) → Contains es x → Contains names x.name
  pub from_logs : told → (x : FoundEntry) → Contains es x → (l : List Entry) × IsLogFile files x.name l × Contains l x.entry
  pub stores : told → (m : Name) (bytes : List ℕ) → Contains names m → m.kind ≡ kinds.Store → get files m ≡ Some bytes → IsThere bytes → (x : FoundStore) × Contains ss x × (x.name ≡ m) × IsStoreFile files m.region m (store_of x)
  pub from_stores : told → (x : FoundStore) → Contains ss x → IsStoreFile files x.name.region x.name (store_of x)
  pub small : told → (m : Name) (bytes : List ℕ) → Contains names m → m.kind ≡ kinds.Store → get files m ≡ Some bytes → length bytes < 2 ^ 64
  pub each : (x : FoundStore) → Contains ss x → IsStore (store_of x) × ((n : Name) × Contains names n × (x.name ≡ n) × (n.kind ≡ kinds.Store))
  pub rising : told → AreInNameOrder ss
