-- Files of which the same stores count are stored alike.
use Rattle.std.proofs.Common.{◌≡◌, ◌≢◌, ◌⊎◌, inl, inr, ℕ, ◌≤◌, ◌<◌, List, [], ◌∷◌, length, sym, ap, ◌∙◌, subst, arith}
use Rattle.std.specs.FinMap.{get}
use Rattle.std.proofs.lemmas.List.Elements.{All-contains, All-from_recursion}
use Rattle.cell_model.specs.Order.{VersionKey, Payload}
use Rattle.log_model.specs.declared.name.Name.{Name}
use Rattle.log_model.specs.declared.name.NameKind.TheVariants as kinds
use Rattle.log_model.specs.StoreText.{Store, IsStoredCell, IsStoreText}
use Rattle.log_model.specs.Files.{Files, IsStoreFile}
use Rattle.log_model.specs.Recovered.{IsCounting, IsFor, Holds, FlushesTo, IsStored, IsFlushed}

-- the same stores count
abbrev pub Counts : Files → Files → Type 0
Counts old new = (r : ℕ) (n : Name) (s : Store) → IsCounting old r n s → IsCounting new r n s

abbrev pub SameStores : Files → Files → Type 0
SameStores old new = (n : Name) → n.kind ≡ kinds.Store → get new n ≡ get old n

pub stores_back : (I J : Files) → SameStores I J → SameStores J I
stores_back I J same n kind = sym (same n kind)

pub store_kept : (I J : Files) → SameStores I J → (r : ℕ) (n : Name) (s : Store) → IsStoreFile I r n s → IsStoreFile J r n s
store_kept I J same r n s f = record { kind = f.kind; of = f.of; bytes = f.bytes; there = same n f.kind ∙ f.there; gate = f.gate; text = f.text }

pub counts_kept : (I J : Files) → SameStores I J → Counts I J
counts_kept I J same r n s c = record { file = store_kept I J same r n s c.file; stands = λ other t f one. c.stands other t (store_kept J I (stores_back I J same) r other t f) one }

pub flushes_by : (I J : Files) → Counts I J → (r : ℕ) (f : List ℕ) (n : ℕ) → FlushesTo I r f n → FlushesTo J r f n
flushes_by I J counts r f n h = (h.0, h.1, counts r h.0 h.1 h.2, h.3, h.4)

pub stored_by : (I J : Files) → Counts I J → Counts J I → (r : ℕ) (v : VersionKey) (p : Payload) → IsStored I r v p → IsStored J r v p
stored_by I J there back r v p h = record {
  name = h.name;
  store = h.store;
  file = there r h.name h.store h.file;
  holds = h.holds;
  newest = λ other s q f holds. h.newest other s q (back r other s f) holds;
}

pub flushed_by : (I J : Files) → Counts I J → Counts J I → (r : ℕ) (f : List ℕ) (n : ℕ) → IsFlushed I r f n → IsFlushed J r f n
flushed_by I J there back r f n h = record {
  reached = elim h.reached as (λ _. FlushesTo J r f n ⊎ (n ≡ 0)) [ inl g ↦ inl (flushes_by I J there r f n g) | inr none ↦ inr none ];
  bound = λ m g. h.bound m (flushes_by J I back r f m g);
}

pub flushes_kept : (I J : Files) → SameStores I J → (r : ℕ) (f : List ℕ) (n : ℕ) → FlushesTo I r f n → FlushesTo J r f n
flushes_kept I J same = flushes_by I J (counts_kept I J same)

pub stored_kept : (I J : Files) → SameStores I J → (r : ℕ) (v : VersionKey) (p : Payload) → IsStored I r v p → IsStored J r v p
stored_kept I J same = stored_by I J (counts_kept I J same) (counts_kept J I (stores_back I J same))

pub flushed_kept : (I J : Files) → SameStores I J → (r : ℕ) (f : List ℕ) (n : ℕ) → IsFlushed I r f n → IsFlushed J r f n
flushed_kept I J same = flushed_by I J (counts_kept I J same) (counts_kept J I (stores_back I J same))

-- ---- of which family a store's cells are

none_or_some : (f : List ℕ) → (f ≡ []) ⊎ (f ≢ [])
none_or_some [] = inl (refl_of [])
  where
    refl_of : (x : List ℕ) → x ≡ x
    refl_of x = λ _. x
none_or_some (x ∷ f) = inr (λ none. omega (arith, ap length none))

-- a store is for the family of what it holds
pub held_family : (r : ℕ) (bytes : List ℕ) (s : Store) (v : VersionKey) (p : Payload) → IsStoreText r bytes s → Holds s v p → IsFor s.family v.key.family
held_family r bytes s v p text h =
    let cell : IsStoredCell s h.0 = All-contains (IsStoredCell s) s.cells h.0 (All-from_recursion (IsStoredCell s) s.cells text.store.each) h.1 in
    elim (none_or_some s.family) as (λ _. IsFor s.family v.key.family) [
      | inl none ↦ inl none
      | inr some ↦ inr (sym (cell.family some) ∙ ap (λ (w : VersionKey). w.key.family) h.2)
    ]

-- the family of what it holds has a byte
pub held_given : (r : ℕ) (bytes : List ℕ) (s : Store) (v : VersionKey) (p : Payload) → IsStoreText r bytes s → Holds s v p → 1 ≤ length v.key.family
held_given r bytes s v p text h =
    let cell : IsStoredCell s h.0 = All-contains (IsStoredCell s) s.cells h.0 (All-from_recursion (IsStoredCell s) s.cells text.store.each) h.1 in
    subst (λ (w : VersionKey). 1 ≤ length w.key.family) h.2 cell.cell.family_given
