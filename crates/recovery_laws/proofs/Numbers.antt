-- What the numbers of versions and entries tell of what is stored.
use Rattle.std.proofs.Common.{◌≡◌, ◌⊎◌, inl, inr, ⊎_elim, ℕ, ◌≤◌, List, Contains, ap, subst, refl, arith}
use Rattle.std.proofs.lemmas.List.Elements.{All-contains, All-from_recursion}
use Rattle.cell_model.specs.Order.{VersionKey, Payload}
use Rattle.log_model.specs.Entry.{Entry}
use Rattle.log_model.specs.StoreText.{Store, IsStoredCell, IsStoreText}
use Rattle.log_model.proofs.TextLaws.{with_version}
use Rattle.log_model.specs.LogText.{IsEntryOf, in_version}
use Rattle.log_model.specs.Files.{Files, key_of as file_key, IsLogged}
use Rattle.log_model.specs.Recovered.{IsGreatest, HasFamily, Holds, IsRecovered, IsStored, FlushesTo, IsLast}
use Rattle.recovery_laws.specs.Kept.{Kept, IsLike}
use Rattle.recovery_laws.proofs.Lists.{none_in, entries_in, some_family}
use Rattle.recovery_laws.proofs.Contents.{puts_number}

-- a version that a store holds lies between its numbers
pub held_range : (r : ℕ) (bytes : List ℕ) (s : Store) (v : VersionKey) (p : Payload) → IsStoreText r bytes s → Holds s v p → (s.from ≤ v.number) × (v.number ≤ s.to)
held_range r bytes s v p text h =
    let cell : IsStoredCell s h.0 = All-contains (IsStoredCell s) s.cells h.0 (All-from_recursion (IsStoredCell s) s.cells text.store.each) h.1 in
    let at : h.0.0 ≡ v.number = ap (λ (w : VersionKey). w.number) h.2 in
    (omega (arith, cell.from, at), omega (arith, cell.to, at))

-- what is recovered has no number above the last one
pub recovered_low : (files : Files) (r n : ℕ) (v : VersionKey) (p : Payload) → IsLast files r n → IsRecovered files r v p → v.number ≤ n
recovered_low files r n v p last (inl st) =
    omega (arith, (held_range r st.file.file.bytes st.store v p st.file.file.text st.holds).1, last.bound st.store.to (inl (st.name, st.store, st.file, refl)))
recovered_low files r n v p last (inr u) = omega (arith, puts_number u.entry v p u.puts, last.bound u.entry.number (inr (u.entry, u.logged, u.region, refl)))

pub one_last : (files : Files) (r m n : ℕ) → IsLast files r m → IsLast files r n → m ≡ n
one_last files r m n a b = let le : m ≤ n = below a.reached b in let ge : n ≤ m = below b.reached a in omega (arith, le, ge)
  where
    below : {P : ℕ → Type 0} {i j : ℕ} → P i ⊎ (i ≡ 0) → IsGreatest P j → i ≤ j
    below {P} {i} {j} (inl is) g = g.bound i is
    below {P} {i} {j} (inr e) g = omega (arith, e)

-- a logged entry has a number
pub logged_given : (J : Files) (e : Entry) → IsLogged J e → 1 ≤ e.number
logged_given J e h = let text = with_version (file_key h.name) h.file.bytes h.entries h.file.ended h.file.text in elim text.2 as (λ _. 1 ≤ e.number) [
  | inl short ↦ absurd (none_in e (subst (λ (l : List Entry). Contains l e) short.1 h.member))
  | inr long ↦ (entries_in (IsEntryOf (in_version text.0 (file_key h.name))) h.entries e long.1.each h.member).entry.number_given
]

-- and a cell
pub logged_family : (J : Files) (e : Entry) → IsLogged J e → (f : List ℕ) × HasFamily e f
logged_family J e h = let text = with_version (file_key h.name) h.file.bytes h.entries h.file.ended h.file.text in elim text.2 as (λ _. (f : List ℕ) × HasFamily e f) [
  | inl short ↦ absurd (none_in e (subst (λ (l : List Entry). Contains l e) short.1 h.member))
  | inr long ↦ some_family e (entries_in (IsEntryOf (in_version text.0 (file_key h.name))) h.entries e long.1.each h.member).entry.batch.given
]

-- what recovers up to what is flushed of its family is stored
pub stored_to : (k : Kept) (J : Files) → IsLike k J → (r n : ℕ) (v : VersionKey) (p : Payload) → n ≤ k.flushed r v.key.family → IsRecovered J r v p → v.number ≤ n → IsStored J r v p
stored_to k J like r n v p low (inl stored) le = stored
stored_to k J like r n v p low (inr u) le =
    let at : v.number ≡ u.entry.number = puts_number u.entry v p u.puts in
    let m : ℕ = k.flushed r v.key.family in
    absurd (⊎_elim (λ (f : FlushesTo J r v.key.family m). omega (arith, u.above m f, at, le, low)) (λ (none : m ≡ 0). omega (arith, none, at, le, low, logged_given J u.entry u.logged)) (like.flushed r v.key.family).reached)
