-- Entries that are flushed, and those that are not.
use Rattle.std.proofs.Common.{◌≡◌, ◌⊎◌, inl, inr, ℕ, ◌<◌, ◌≤◌, List, [], ◌∷◌, length, get_or, Contains, refl, sym, ap, ◌∙◌, subst, arith}
use Rattle.std.proofs.lemmas.Bool.{cases_lt}
use Rattle.std.proofs.lemmas.List.{get_or-map}
use Rattle.cell_model.specs.Cell.{Cell}
use Rattle.log_model.specs.Entry.{Entry}
use Rattle.log_model.specs.Files.{Files}
use Rattle.log_model.specs.declared.name.Name.{Name}
use Rattle.log_model.specs.StoreText.{Store}
use Rattle.log_model.specs.Recovered.{IsGreatest, IsFor, FlushesTo, IsFlushed, HasFamily}
use Rattle.recovery_laws.specs.Laws.{IsFlushedEntry}
use Rattle.recovery_laws.proofs.Stores.{SameStores, flushes_kept}
use Rattle.found_files.specs.declared.found.FoundStore.{FoundStore}
use Rattle.found_files.specs.Found.{store_of}
use Rattle.found_files.specs.Counting.{AreCountingOf}
use Rattle.found_files.proofs.Placing.{none_in, first_in, later_in, first_or_later}
use Rattle.wal_split.specs.declared.flushed.RegionFlushed.{RegionFlushed}
use Rattle.wal_split.specs.Flushed.{GoesTo, AreFlushed, flushed_of, flushed_at}
use Rattle.wal_split.specs.Unflushed.{IsUnflushedEntry, IsAboveBy}

-- one of these cells is above its family's number, or none is
cells_cases : (flushed : List ℕ → ℕ) (n : ℕ) (cs : List Cell) → ((c : Cell) × Contains cs c × (flushed c.family < n)) ⊎ ((c : Cell) → Contains cs c → n ≤ flushed c.family)
cells_cases flushed n [] = inr (λ c has. absurd (none_in c has))
cells_cases flushed n (c ∷ cs) = elim (cases_lt (flushed c.family) n) as (λ _. ((d : Cell) × Contains (c ∷ cs) d × (flushed d.family < n)) ⊎ ((d : Cell) → Contains (c ∷ cs) d → n ≤ flushed d.family)) [
  | inl above ↦ inl (c, first_in c cs, above)
  | inr low ↦ elim (cells_cases flushed n cs) as (λ _. ((d : Cell) × Contains (c ∷ cs) d × (flushed d.family < n)) ⊎ ((d : Cell) → Contains (c ∷ cs) d → n ≤ flushed d.family)) [
    | inl (d, has, above) ↦ inl (d, later_in c cs d has, above)
    | inr all ↦ inr (λ d has. elim (first_or_later c cs d has) as (λ _. n ≤ flushed d.family) [
      | inl here ↦ subst (λ (x : Cell). n ≤ flushed x.family) here low
      | inr later ↦ all d later
    ])
  ]
]

-- an entry has a cell above its family's number, or each of its families goes up to the entry
pub above_cases : (flushed : List ℕ → ℕ) (e : Entry) → IsAboveBy flushed e ⊎ ((f : List ℕ) → HasFamily e f → e.number ≤ flushed f)
above_cases flushed e = elim (cells_cases flushed e.number e.batch.cells) as (λ _. IsAboveBy flushed e ⊎ ((f : List ℕ) → HasFamily e f → e.number ≤ flushed f)) [
  | inl (c, has, above) ↦ inl (c.family, (c, has, refl), above)
  | inr all ↦ inr (λ f h. subst (λ (g : List ℕ). e.number ≤ flushed g) h.2 (all h.0 h.1))
]

module _ (files : Files) (e : Entry) (flushed : List ℕ → ℕ) (are : (f : List ℕ) → IsFlushed files e.region f (flushed f)) (given : 1 ≤ e.number) where
  -- what is not above the flushed numbers is flushed
  pub low_flushed : ((f : List ℕ) → HasFamily e f → e.number ≤ flushed f) → IsFlushedEntry files e
  low_flushed low f has = (
    flushed f,
    elim (are f).reached as (λ _. FlushesTo files e.region f (flushed f)) [ inl flushes ↦ flushes | inr zero ↦ absurd (let le = low f has in omega (arith, le, zero, given)) ],
    low f has,
  )

  pub not_above : ¬ IsAboveBy flushed e → IsFlushedEntry files e
  not_above not = elim (above_cases flushed e) as (λ _. IsFlushedEntry files e) [ inl above ↦ absurd (not above) | inr low ↦ low_flushed low ]

  pub above_unflushed : IsAboveBy flushed e → IsUnflushedEntry files e
  above_unflushed (f, has, above) = (f, has, λ n flushes. (let le = (are f).bound n flushes in omega (arith, le, above)))

  pub unflushed_above : IsUnflushedEntry files e → IsAboveBy flushed e
  unflushed_above (f, has, above) = (f, has, elim (are f).reached as (λ _. flushed f < e.number) [ inl flushes ↦ above (flushed f) flushes | inr zero ↦ omega (arith, zero, given) ])

  pub unflushed_cases : IsUnflushedEntry files e ⊎ IsFlushedEntry files e
  unflushed_cases = elim (above_cases flushed e) as (λ _. IsUnflushedEntry files e ⊎ IsFlushedEntry files e) [ inl above ↦ inl (above_unflushed above) | inr low ↦ inr (low_flushed low) ]

-- an entry that is flushed is so in files with the same stores
pub entry_kept : (I J : Files) → SameStores I J → (e : Entry) → IsFlushedEntry I e → IsFlushedEntry J e
entry_kept I J same e flushed f has = (let h = flushed f has in (h.0, flushes_kept I J same e.region f h.0 h.1, h.2))

-- the numbers of one region among those of all
pub at_region : (flushed : List RegionFlushed) (r : ℕ) (d : RegionFlushed) (f : List ℕ) → r < length flushed → flushed_at flushed r f ≡ flushed_of (get_or flushed r d) f
at_region flushed r d f lt = get_or-map (λ (x : RegionFlushed). flushed_of x f) flushed r d 0 lt

-- where these stores are those that count, they say what is flushed
pub goes_at : (ss : List FoundStore) (flushed : List RegionFlushed) → AreFlushed ss flushed → (r : ℕ) (f : List ℕ) → r ≤ 64 → IsGreatest (GoesTo ss r f) (flushed_at flushed r f)
goes_at ss flushed are r f low = go flushed are
  where
    go : (xs : List RegionFlushed) → AreFlushed ss xs → IsGreatest (GoesTo ss r f) (flushed_at xs r f)
    go [] a = absurd (omega (arith, a.long))
    go (x ∷ xs) a = subst (λ (n : ℕ). IsGreatest (GoesTo ss r f) n) (sym (at_region (x ∷ xs) r x f (omega (arith, low, a.long)))) ((a.each r x (omega (arith, low))).each f)

module _ (files : Files) (r : ℕ) (ss : List FoundStore) (are : AreCountingOf files r ss) (f : List ℕ) (n : ℕ) where
  pub goes_flushes : GoesTo ss r f n → FlushesTo files r f n
  goes_flushes (x, has, region, is_for, to) = (x.name, store_of x, are.each x has region, is_for, to)

  pub flushes_goes : FlushesTo files r f n → GoesTo ss r f n
  flushes_goes (name, s, counts, is_for, to) =
      let q = are.all name s counts in
      (q.0, q.1, ap (λ (m : Name). m.region) q.2 ∙ counts.file.of, subst (λ (t : Store). IsFor t.family f) q.3 is_for, ap (λ (t : Store). t.to) (sym q.3) ∙ to)
