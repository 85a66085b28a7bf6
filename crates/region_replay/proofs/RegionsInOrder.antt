-- What the regions have holds on any disk.
use Rattle.std.proofs.Common.{◌≡◌, ◌≢◌, ◌⊎◌, inl, inr, ℕ, zero, suc, Bool, true, false, ◌+◌, ◌<◌, ◌≤◌, ◌^◌, ◌==◌, ◌&&◌, List, [], ◌∷◌, ◌++◌, map, get_or, Contains, refl, sym, ap, ◌∙◌, subst, arith}
use Rattle.std.specs.Prelude.{AllPairs}
use Rattle.std.specs.List.{AllByRecursion}
use Rattle.std.specs.declared.cmp.Ordering.{Ordering}
use Rattle.std.specs.declared.cmp.Ordering.TheVariants.{Less, Equal}
use Rattle.std.specs.Ordering.{nat_cmp, ordering_then}
use Rattle.std.proofs.lemmas.Bool.{eqb-true}
use Rattle.std.proofs.lemmas.Cmp.{tied_itself}
use Rattle.std.proofs.lemmas.List.Kept.{AllPairs-cons, AllPairs-filter}
use Rattle.std.proofs.lemmas.List.Elements.{Contains-append_cases, Contains-get_or}
use Rattle.cell_model.specs.Order.{NumberedCell}
use Rattle.log_model.specs.declared.name.Name.{Name}
use Rattle.log_model.specs.declared.name.NameKind.{NameKind}
use Rattle.log_model.specs.declared.name.NameKind.TheVariants as kinds
use Rattle.log_model.specs.Entry.{Entry, IsEntry}
use Rattle.log_model.specs.StoreText.{IsStore, IsStoredCell}
use Rattle.log_model.specs.Files.{rank_of, name_cmp}
use Rattle.log_model.specs.Recovered.{IsGreatest, is_of, entries_of}
use Rattle.log_model.proofs.NameLaws.{name_cmp_total}
use Rattle.found_files.specs.declared.found.FoundStore.{FoundStore}
use Rattle.found_files.specs.Found.{store_of, AreInNameOrder}
use Rattle.found_files.proofs.Ordered.{rank_cases}
use Rattle.wal_split.specs.declared.flushed.RegionFlushed.{RegionFlushed}
use Rattle.wal_split.specs.declared.job.EditsJob.{EditsJob}
use Rattle.wal_split.specs.declared.split_files.SplitFiles.{SplitFiles}
use Rattle.wal_split.specs.Grouped.{edits_name}
use Rattle.wal_split.specs.Left.{IsInRange}
use Rattle.wal_split.specs.Flushed.{GoesTo, IsFlushedBy, flushed_of, flushed_at}
use Rattle.wal_split.specs.Unflushed.{IsAbove, IsAboveBy}
use Rattle.wal_split.proofs.Above.{at_region}
use Rattle.region_replay.specs.declared.found.RegionFiles.{RegionFiles}
use Rattle.region_replay.specs.Bases.{Numbered, AreRising, stores_cells}
use Rattle.region_replay.specs.Regions.{IsInOrder}
use Rattle.region_replay.specs.Dealt.{stores_of, cells_of, is_edits, edits_of, written_name, IsDealt}
use Rattle.region_replay.proofs.Finding.{all_append, weaker_all}
use Rattle.region_replay.proofs.Shares.{good_name}
use Rattle.region_replay.proofs.Sorting.{none_in, is_first, is_later, first_or_later}
use Rattle.found_files.proofs.Filters.{in_filter}
use Rattle.region_replay.proofs.Lists.{in_map, apart_from}

abbrev pub numbered : FoundStore → Numbered
numbered y = (y.name.number, store_of y)

pub edits_kind : (k : NameKind) → is_edits k ≡ true → k ≡ kinds.Edits
edits_kind kinds.Log is = absurd (cc is)
edits_kind kinds.Old is = absurd (cc is)
edits_kind kinds.Store is = absurd (cc is)
edits_kind kinds.Edits is = refl

both_true : (a b : Bool) → (a && b) ≡ true → (a ≡ true) × (b ≡ true)
both_true true b is = (refl, is)
both_true false b is = absurd (cc is)

-- names in order differ
pub apart_names : (ns : List Name) → AllPairs (λ a b. name_cmp a b ≡ Less) ns → AllPairs (λ a b. a ≢ b) ns
apart_names ns rise i j d less lt same =
    let is : name_cmp (get_or ns i d) (get_or ns i d) ≡ Less = ap (λ (m : Name). name_cmp (get_or ns i d) m) same ∙ rise i j d less lt in
    absurd (cc (sym is ∙ tied_itself name_cmp_total (get_or ns i d)))

nat_same : (n : ℕ) → nat_cmp n n ≡ Equal
nat_same n = elim (rank_cases n n) as (λ _. nat_cmp n n ≡ Equal) [
  | inl less ↦ absurd (omega (arith, less.0))
  | inr (inl same) ↦ same.1
  | inr (inr more) ↦ absurd (omega (arith, more.0))
]

-- of two stores of a region in order, the first has the lower number
store_lower : (a b : Name) → a.kind ≡ kinds.Store → b.kind ≡ kinds.Store → a.region ≡ b.region → name_cmp a b ≡ Less → a.number < b.number
store_lower a b store_a store_b region lt = elim (rank_cases a.number b.number) as (λ _. a.number < b.number) [
  | inl less ↦ less.0
  | inr (inl same) ↦ absurd (cc (sym same.1 ∙ at))
  | inr (inr more) ↦ absurd (cc (sym more.1 ∙ at))
]
  where
    at : nat_cmp a.number b.number ≡ Less
    at =
        sym (ap (λ (o : Ordering). ordering_then o (nat_cmp a.number b.number)) (ap (λ (n : ℕ). nat_cmp a.region n) (sym region) ∙ nat_same a.region))
        ∙ sym (ap (λ (k : NameKind). ordering_then (nat_cmp (rank_of k) (rank_of b.kind)) (ordering_then (nat_cmp a.region b.region) (nat_cmp a.number b.number))) store_a
        ∙ ap (λ (k : NameKind). ordering_then (nat_cmp 2 (rank_of k)) (ordering_then (nat_cmp a.region b.region) (nat_cmp a.number b.number))) store_b)
        ∙ lt

-- stores of a region in order have rising numbers
pub rising_of : (r : ℕ) (ss : List FoundStore) → AreInNameOrder ss → ((y : FoundStore) → Contains ss y → (y.name.kind ≡ kinds.Store) × (y.name.region ≡ r)) → AreRising (map numbered ss)
rising_of r [] rise of = tt
rising_of r (s ∷ ss) rise of = (
  λ z has. (
      let q = in_map numbered ss z has in
      let member = q.1 in
      let within = member.1 in
      let one = of s (is_first s ss) in
      let two = of q.0 (is_later s ss q.0 member) in
      let pair : name_cmp s.name (get_or ss member.0 q.0).name ≡ Less = rise zero (suc member.0) q.0 (omega arith) (omega (arith, within)) in
      let less = store_lower s.name q.0.name one.0 two.0 (one.1 ∙ sym two.1) (subst (λ (y : FoundStore). name_cmp s.name y.name ≡ Less) member.2 pair) in
      subst (λ (w : Numbered). s.name.number < w.0) q.2 less),
  rising_of r ss (λ i j d less lt. rise (suc i) (suc j) d (omega (arith, less)) (omega (arith, lt))) (λ y has. of y (is_later s ss y has)),
)

pub cells_same : (ss : List FoundStore) → cells_of ss ≡ stores_cells (map numbered ss)
cells_same [] = refl
cells_same (s ∷ ss) = ap (λ (l : List NumberedCell). s.text.cells ++ l) (cells_same ss)

pub stored_low : (n : ℕ) (ss : List FoundStore) → ((y : FoundStore) → Contains ss y → IsStore (store_of y) × (y.text.to ≤ n)) → AllByRecursion (λ c. c.0 ≤ n) (cells_of ss)
stored_low n [] each = tt
stored_low n (s ∷ ss) each =
    let one = each s (is_first s ss) in
    all_append (λ (c : NumberedCell). c.0 ≤ n) s.text.cells (cells_of ss)
    (weaker_all (IsStoredCell (store_of s)) (λ (c : NumberedCell). c.0 ≤ n) s.text.cells (λ c is. (let low = is.to in omega (arith, low, one.1))) one.0.each)
    (stored_low n ss (λ y has. each y (is_later s ss y has)))

in_written : (es : List Entry) (name m : Name) → Contains (written_name es name) m → (name ≡ m) × ((e : Entry) × Contains es e)
in_written [] name m has = absurd (none_in m has)
in_written (e ∷ es) name m has = elim (first_or_later name [] m has) as (λ _. (name ≡ m) × ((d : Entry) × Contains (e ∷ es) d)) [
  | inl is ↦ (is, (e, is_first e es))
  | inr none ↦ absurd (none_in m none)
]

pub to_written : (es : List Entry) (name : Name) → es ≢ [] → Contains (written_name es name) name
to_written [] name some = absurd (some refl)
to_written (e ∷ es) name some = is_first name []

apart_written : (es : List Entry) (name : Name) (ns : List Name) → AllPairs (λ a b. a ≢ b) ns → ((m : Name) → Contains ns m → name ≢ m) → AllPairs (λ a b. a ≢ b) (written_name es name ++ ns)
apart_written [] name ns apart other = apart
apart_written (e ∷ es) name ns apart other = AllPairs-cons (λ a b. a ≢ b) name ns (λ k d lt. other (get_or ns k d) (Contains-get_or ns k d lt)) apart

module _ (told : Type 0) (x : SplitFiles) (range : IsInRange x) (k : ℕ) (lt : k < 64) (j : EditsJob) (u : RegionFlushed) (y : RegionFiles) (valid : (e : Entry) → Contains x.plan.kept.items e → IsEntry e)
    (one : IsDealt (get_or x.plan.jobs.items k j) (k + 1) (get_or x.plan.flushed.items (k + 1) u) x.names x.stores.items x.plan.kept.items y) where
  abbrev pub job : EditsJob
  job = get_or x.plan.jobs.items k j

  -- what is flushed of it is so by the stores
  pub flushed_by : IsFlushedBy x.stores.items (k + 1) y.flushed
  flushed_by = subst (λ (z : RegionFlushed). IsFlushedBy x.stores.items (k + 1) z) (sym one.flushed) (range.flushed.each (k + 1) u (omega (arith, lt)))

  -- and is what is flushed of its entries' families
  above_own : (e : Entry) → e.region ≡ k + 1 → IsAbove x.plan.flushed.items e → IsAboveBy (flushed_of y.flushed) e
  above_own e region (f, has, above) = (
    f,
    has,
    subst (λ (z : RegionFlushed). flushed_of z f < e.number) (sym one.flushed)
        (subst (λ (n : ℕ). n < e.number) (ap (λ (r : ℕ). flushed_at x.plan.flushed.items r f) region ∙ at_region x.plan.flushed.items (k + 1) u f (omega (arith, lt, range.flushed.long))) above),
  )

  pub entry_cases : (e : Entry) → Contains y.unflushed.items e → Contains job.entries.items e ⊎ (Contains x.plan.kept.items e × (e.region ≡ k + 1))
  entry_cases e has = elim (Contains-append_cases job.entries.items (entries_of (k + 1) x.plan.kept.items) e (subst (λ (l : List Entry). Contains l e) one.unflushed has)) as (λ _. Contains job.entries.items e ⊎ (Contains x.plan.kept.items e × (e.region ≡ k + 1))) [
    | inl mine ↦ inl mine
    | inr other ↦ (let r = in_filter (is_of (k + 1)) x.plan.kept.items e other in inr (r.0, eqb-true e.region (k + 1) r.1))
  ]

  -- what holds of each of its unflushed entries
  pub of_entry : (e : Entry) → Contains y.unflushed.items e → (e.region ≡ k + 1) × IsEntry e × IsAboveBy (flushed_of y.flushed) e
  of_entry e has = elim (entry_cases e has) as (λ _. (e.region ≡ k + 1) × IsEntry e × IsAboveBy (flushed_of y.flushed) e) [
    | inl mine ↦ (let r = range.pending k j e lt mine in (r.0, r.1, above_own e r.0 r.2))
    | inr other ↦ (other.1, valid e other.0, above_own e other.1 (range.kept e other.0))
  ]

  pub store_in : (s : FoundStore) → Contains (stores_of (k + 1) x.stores.items) s → Contains x.stores.items s × (s.name.region ≡ k + 1)
  store_in s has = (let r = in_filter (λ (z : FoundStore). z.name.region == (k + 1)) x.stores.items s has in (r.0, eqb-true s.name.region (k + 1) r.1))

  pub edits_cases : (m : Name) → Contains y.edits.items m → ((job.name ≡ m) × ((e : Entry) × Contains job.entries.items e)) ⊎ (Contains x.names m × (m.kind ≡ kinds.Edits) × (m.region ≡ k + 1))
  edits_cases m has = elim (Contains-append_cases (written_name job.entries.items job.name) (edits_of (k + 1) x.names) m (subst (λ (l : List Name). Contains l m) one.edits has)) as (λ _. ((job.name ≡ m) × ((e : Entry) × Contains job.entries.items e)) ⊎ (Contains x.names m × (m.kind ≡ kinds.Edits) × (m.region ≡ k + 1))) [
    | inl mine ↦ inl (in_written job.entries.items job.name m mine)
    | inr other ↦ (
        let r = in_filter (λ (n : Name). is_edits n.kind && (n.region == (k + 1))) x.names m other in
        let b = both_true (is_edits m.kind) (m.region == (k + 1)) r.1 in
        inr (r.0, edits_kind m.kind b.0, eqb-true m.region (k + 1) b.1))
  ]

  pub name_is : job.name ≡ edits_name (k + 1) range.number
  name_is = range.named k j lt

  edits_apart : AllPairs (λ a b. name_cmp a b ≡ Less) x.names → AllPairs (λ a b. a ≢ b) y.edits.items
  edits_apart rise = subst (λ (l : List Name). AllPairs (λ a b. a ≢ b) l) (sym one.edits) (apart_written job.entries.items job.name (edits_of (k + 1) x.names)
      (AllPairs-filter (λ a b. a ≢ b) (λ (n : Name). is_edits n.kind && (n.region == (k + 1))) x.names (apart_names x.names rise))
      (λ m has same. (
      let r = in_filter (λ (n : Name). is_edits n.kind && (n.region == (k + 1))) x.names m has in
      let b = both_true (is_edits m.kind) (m.region == (k + 1)) r.1 in
      let low = range.above m r.0 (λ store. absurd (cc (sym store ∙ edits_kind m.kind b.0))) in
      let number : range.number ≡ m.number = sym (ap (λ (n : Name). n.number) name_is) ∙ ap (λ (n : Name). n.number) same in
      omega (arith, low, number))))

  pub in_order : (told → AllPairs (λ a b. name_cmp a b ≡ Less) x.names) → IsInOrder told y
  in_order rise = record {
    given = (let r = one.region in omega (arith, r));
    region = (let r = one.region in omega (arith, r, lt));
    above = λ e has. (let a = (of_entry e has).2 in omega (arith, a.2));
    low = λ e has. (of_entry e has).1.number;
    whole = reached_by y.flushed.whole flushed_by.whole;
    last = flushed_low;
    stored = subst (λ (l : List NumberedCell). AllByRecursion (λ c. c.0 ≤ y.flushed.last) l) (sym one.stored) (stored_low y.flushed.last (stores_of (k + 1) x.stores.items) (λ s has. (
        let r = store_in s has in
        ((range.stores s r.0).0, flushed_by.last.bound s.text.to (s, r.0, r.1, refl)))));
    next_given = elim one.next as (λ _. 1 ≤ y.next_store) [ inl is ↦ omega (arith, is) | inr (m, has, store, of, is) ↦ omega (arith, is) ];
    next = elim one.next as (λ _. y.next_store ≤ 2 ^ 63) [
      | inl is ↦ omega (arith, is)
      | inr (m, has, store, of, is) ↦ (let low = (good_name x.names m (range.good m has)).low in omega (arith, is, low))
    ];
    edits = record {
      kind = λ m has. elim (edits_cases m has) as (λ _. m.kind ≡ kinds.Edits) [
        | inl mine ↦ sym (ap (λ (n : Name). n.kind) mine.0) ∙ ap (λ (n : Name). n.kind) name_is
        | inr other ↦ other.1
      ];
      apart = λ is_told. apart_from y.edits.items (edits_apart (rise is_told));
    };
    of = λ m has. elim (edits_cases m has) as (λ _. m.region ≡ y.region) [
      | inl mine ↦ sym (ap (λ (n : Name). n.region) mine.0) ∙ ap (λ (n : Name). n.region) name_is ∙ sym one.region
      | inr other ↦ other.2 ∙ sym one.region
    ];
  }
    where
      flushed_low : y.flushed.last < 2 ^ 48
      flushed_low = elim flushed_by.last.reached as (λ _. y.flushed.last < 2 ^ 48) [
        | inl (s, has, region, to) ↦ (let limit = (range.stores s has).0.limit in omega (arith, to, limit))
        | inr none ↦ omega (arith, none)
      ]

      reached_by : (n : ℕ) → IsGreatest (GoesTo x.stores.items (k + 1) []) n → n ≤ y.flushed.last
      reached_by n is = elim is.reached as (λ _. n ≤ y.flushed.last) [
        | inl (s, has, region, is_for, to) ↦ flushed_by.last.bound n (s, has, region, to)
        | inr none ↦ omega (arith, none)
      ]
