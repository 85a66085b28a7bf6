-- What was read of one region alone is what stands in its files.
use Rattle.std.proofs.Common.{◌≡◌, ◌≢◌, inl, inr, ℕ, ◌+◌, ◌<◌, ◌≤◌, ◌^◌, List, [], map, get_or, Contains, Option, refl, sym, ap, ◌∙◌, subst, arith}
use Rattle.std.specs.Prelude.{AllPairs}
use Rattle.std.specs.List.{AllByRecursion}
use Rattle.std.proofs.lemmas.Bool.{eq-eqb, eqb-true}
use Rattle.std.proofs.lemmas.List.Kept.{AllPairs-filter}
use Rattle.std.proofs.lemmas.List.Elements.{Contains-get_or}
use Rattle.cell_model.specs.Order.{NumberedCell}
use Rattle.log_model.specs.declared.name.Name.{Name}
use Rattle.log_model.specs.declared.name.NameKind.TheVariants as kinds
use Rattle.log_model.specs.Entry.{Entry}
use Rattle.log_model.specs.StoreText.{Store}
use Rattle.log_model.specs.Files.{Files, content, HoldsEntries, IsAbsent, IsPresent, IsLogged, Reads}
use Rattle.log_model.specs.Recovered.{FlushesTo, IsCounting, IsFlushed, IsGreatest, is_of, entries_of}
use Rattle.disk_images.proofs.Settled.{present_cases}
use Rattle.recovery_laws.proofs.Numbers.{logged_given}
use Rattle.recovery_laws.specs.Change.{HasText}
use Rattle.recovery_laws.specs.Kept.{AreApart}
use Rattle.found_files.specs.declared.found.FoundEntry.{FoundEntry}
use Rattle.found_files.specs.declared.found.FoundStore.{FoundStore}
use Rattle.found_files.specs.Found.{AreContents, store_of, place_in}
use Rattle.found_files.specs.OfRegion.{IsOfRegion, IsEditsOf, AreNamesOf}
use Rattle.found_files.proofs.Files.{one_list}
use Rattle.found_files.proofs.InRegion.{entry_region}
use Rattle.found_files.specs.Counting.{AreCountingOf}
use Rattle.found_files.proofs.Greatest.{greatest_same}
use Rattle.found_files.proofs.Replaced.{counting_of}
use Rattle.wal_split.specs.declared.flushed.RegionFlushed.{RegionFlushed}
use Rattle.wal_split.specs.Flushed as by_stores
use Rattle.wal_split.specs.Flushed.{GoesTo, IsFlushedBy, flushed_of, flushed_at}
use Rattle.wal_split.specs.Unflushed.{IsAbove, IsAboveBy, IsBefore, IsUnflushedEntry}
use Rattle.wal_split.proofs.Above.{at_region, unflushed_above, goes_flushes, flushes_goes}
use Rattle.region_replay.specs.declared.found.RegionFiles.{RegionFiles}
use Rattle.region_replay.specs.Alone.{IsRegionOf}
use Rattle.region_replay.specs.Bases.{Numbered, AreStores, AreUnflushed}
use Rattle.region_replay.specs.Dealt.{is_edits}
use Rattle.region_replay.specs.Names.{store_name}
use Rattle.region_replay.specs.Regions.{Reaches, IsInOrder, IsEdited, IsFound}
use Rattle.found_files.proofs.Filters.{in_filter, to_filter}
use Rattle.region_replay.proofs.Lists.{in_map, to_map, apart_of, apart_from}
use Rattle.region_replay.proofs.Passing.{no_log_edits}
use Rattle.region_replay.proofs.RegionsInOrder.{numbered, rising_of, cells_same, stored_low, edits_kind, apart_names}

edits_only : (r : ℕ) (m : Name) → IsOfRegion r m → HoldsEntries m.kind → m.kind ≡ kinds.Edits
edits_only r m of (inr edits) = edits
edits_only r m of (inl log) = elim of.1 as (λ _. m.kind ≡ kinds.Edits) [ inl store ↦ absurd (cc (sym store ∙ log)) | inr edits ↦ edits ]

module _ (told : Type 0) (files : Files) (r : ℕ) (given : 1 ≤ r) (low : r ≤ 64) (names : List Name) (es : List FoundEntry) (every : List FoundStore)
    (are : AreNamesOf told files r names) (read : AreContents told files names es every) (x : RegionFiles) (of : IsRegionOf r names es every x) where
  abbrev ss : List FoundStore
  ss = of.ss

  store_region : (y : FoundStore) → Contains ss y → (y.name.kind ≡ kinds.Store) × (y.name.region ≡ r)
  store_region y has =
      let e = (read.each y (of.counting.each y has).0).1 in
      (ap (λ (m : Name). m.kind) e.2 ∙ e.3, ap (λ (m : Name). m.region) e.2 ∙ (are.each e.0 e.1).0)

  -- what is flushed of it is so by the stores that count
  flushed_by : IsFlushedBy ss r x.flushed
  flushed_by = subst (λ (z : RegionFlushed). IsFlushedBy ss r z) (sym (of.upto x.flushed)) (of.are_flushed.each r x.flushed (omega (arith, low)))

  flushed_low : x.flushed.last < 2 ^ 48
  flushed_low = elim flushed_by.last.reached as (λ _. x.flushed.last < 2 ^ 48) [
    | inl (s, has, region, to) ↦ (let limit = (read.each s (of.counting.each s has).0).0.limit in omega (arith, to, limit))
    | inr none ↦ omega (arith, none)
  ]

  whole_low : x.flushed.whole ≤ x.flushed.last
  whole_low = elim flushed_by.whole.reached as (λ _. x.flushed.whole ≤ x.flushed.last) [
    | inl (s, has, region, is_for, to) ↦ flushed_by.last.bound x.flushed.whole (s, has, region, to)
    | inr none ↦ omega (arith, none)
  ]

  kept_of : (e : Entry) → Contains x.unflushed.items e → Contains of.kept e × (e.region ≡ r)
  kept_of e has = (let f = in_filter (is_of r) of.kept e (subst (λ (l : List Entry). Contains l e) of.unflushed has) in (f.0, eqb-true e.region r f.1))

  -- what is flushed of the families of the region's entries
  own_flushed : (f : List ℕ) → flushed_at of.flushed r f ≡ flushed_of x.flushed f
  own_flushed f = at_region of.flushed r x.flushed f (omega (arith, low, of.are_flushed.long)) ∙ ap (λ (z : RegionFlushed). flushed_of z f) (sym (of.upto x.flushed))

  above_of : (e : Entry) → Contains x.unflushed.items e → IsAboveBy (flushed_of x.flushed) e
  above_of e has =
      let k = kept_of e has in
      let f = of.parts.from_edits e k.0 in
      let a : IsAboveBy (flushed_at of.flushed r) e = subst (λ (q : ℕ). IsAboveBy (flushed_at of.flushed q) e) k.1 f.4 in
      (a.0, a.1, subst (λ (n : ℕ). n < e.number) (own_flushed a.0) a.2)

  edits_of_it : (m : Name) → Contains x.edits.items m → Contains names m × (m.kind ≡ kinds.Edits) × (m.region ≡ r)
  edits_of_it m has =
      let f = in_filter (λ (n : Name). is_edits n.kind) names m (subst (λ (l : List Name). Contains l m) of.edits has) in
      (f.0, edits_kind m.kind f.1, (are.each m f.0).0)

  to_edits : (m : Name) → Contains names m → m.kind ≡ kinds.Edits → Contains x.edits.items m
  to_edits m has edits = subst (λ (l : List Name). Contains l m) (sym of.edits) (to_filter (λ (n : Name). is_edits n.kind) names m has (ap is_edits edits))

  pub in_order : IsInOrder told x
  in_order = record {
    given = (let region = of.region in omega (arith, given, region));
    region = (let region = of.region in omega (arith, low, region));
    above = λ e has. (let a = above_of e has in omega (arith, a.2));
    low = λ e has. (of.valid e has).number;
    whole = whole_low;
    last = flushed_low;
    stored = subst (λ (l : List NumberedCell). AllByRecursion (λ c. c.0 ≤ x.flushed.last) l) (sym of.stored) (stored_low x.flushed.last ss (λ s has. ((read.each s (of.counting.each s has).0).0, flushed_by.last.bound s.text.to (s, has, (store_region s has).1, refl))));
    next_given = elim of.next.one as (λ _. 1 ≤ x.next_store) [ inl is ↦ omega (arith, is) | inr (m, has, store, is) ↦ omega (arith, is) ];
    next = of.next.low;
    edits = record {
      kind = λ m has. (edits_of_it m has).1;
      apart = λ is_told. apart_from x.edits.items (subst (λ (l : List Name). AllPairs (λ a b. a ≢ b) l) (sym of.edits)
          (AllPairs-filter (λ a b. a ≢ b) (λ (n : Name). is_edits n.kind) names (apart_names names (are.rise is_told))));
    };
    of = λ m has. (edits_of_it m has).2 ∙ sym of.region;
  }

  module _ (is_told : told) where
    -- the name of the next store is none of a file that is there
    pub next_absent : IsAbsent files (store_name x.region x.next_store)
    next_absent = elim (present_cases files (store_name x.region x.next_store)) as (λ _. IsAbsent files (store_name x.region x.next_store)) [
      | inl none ↦ none
      | inr some ↦ (
          let has = are.all is_told (store_name x.region x.next_store) (of.region, inl refl) (λ gone. absurd (cc (sym gone ∙ some.1))) in
          let below = of.next.above (store_name x.region x.next_store) has refl in
          absurd (omega (arith, below)))
    ]

    pub edits_there : (m : Name) → Contains x.edits.items m → ∥ ((c : List ℕ) × Reads files m c) ∥₁
    edits_there m has = elim (present_cases files m) as (λ _. ∥ ((c : List ℕ) × Reads files m c) ∥₁) [
      | inl none ↦ absurd (are.there is_told m (edits_of_it m has).0 none)
      | inr some ↦ ∣ some ∣₁
    ]

    -- where these go, and no other edits file comes, none of the region is left
    pub none_of_region : (J : Files) → ((m : Name) → m ≢ store_name x.region x.next_store → ((n : Name) → Contains x.edits.items n → m ≢ n) → content J m ≡ content files m) → ((m : Name) → Contains x.edits.items m → IsAbsent J m)
        → (m : Name) → m.kind ≡ kinds.Edits → m.region ≡ r → IsAbsent J m
    none_of_region J others left m edits region = elim (present_cases files m) as (λ _. IsAbsent J m) [
      | inl none ↦ others m (λ is. absurd (cc (sym edits ∙ ap (λ (k : Name). k.kind) is))) (λ n has is. are.there is_told n (edits_of_it n has).0 (sym (ap (λ (k : Name). content files k) is) ∙ none)) ∙ none
      | inr some ↦ left m (to_edits m (are.all is_told m (region, inr edits) (λ gone. absurd (cc (sym gone ∙ some.1)))) edits)
    ]

    module _ (no_logs : (m : Name) → m.kind ≡ kinds.Log → IsAbsent files m) (regions : (m : Name) → m.kind ≡ kinds.Edits → IsPresent files m → 1 ≤ m.region) where
      -- the stores that count in the files are these
      counting_now : AreCountingOf files r ss
      counting_now = counting_of told is_told files names es every ss read of.counting r (λ m store region here. are.all is_told m (region, inl store) here)

      flushed_is : (f : List ℕ) (n : ℕ) → IsGreatest (GoesTo ss r f) n → IsFlushed files r f n
      flushed_is f n is = greatest_same (GoesTo ss r f) (FlushesTo files r f) n is (goes_flushes files r ss counting_now f) (flushes_goes files r ss counting_now f)

      last_is : IsGreatest (Reaches files r) x.flushed.last
      last_is = greatest_same (by_stores.Reaches ss r) (Reaches files r) x.flushed.last flushed_by.last
          (λ n h. (h.0.name, store_of h.0, counting_now.each h.0 h.1 h.2, h.3))
          (λ n h. (let q = counting_now.all h.0 h.1 h.2 in (q.0, q.1, ap (λ (m : Name). m.region) q.2 ∙ h.2.file.of, ap (λ (t : Store). t.to) (sym q.3) ∙ h.3)))

      are_stores : AreStores files r (map numbered ss)
      are_stores = record {
        each = λ z has. (
            let q = in_map numbered ss z has in
            subst (λ (w : Numbered). (name : Name) × IsCounting files r name w.1 × (name.number ≡ w.0)) q.2
            (q.0.name, counting_now.each q.0 q.1 (store_region q.0 q.1).1, refl));
        all = λ m s counts. (
            let q = counting_now.all m s counts in
            subst (λ (t : Store). Contains (map numbered ss) (m.number, t)) (sym q.3)
            (subst (λ (n : Name). Contains (map numbered ss) (n.number, store_of q.0)) q.2 (to_map numbered ss q.0 q.1)));
        rising = rising_of r ss (of.counting.rising (read.rising is_told)) store_region;
      }

      edited : (e : Entry) → Contains x.unflushed.items e → IsEdited files e
      edited e has =
          let f = of.parts.from_edits e (kept_of e has).0 in
          let l = read.from_logs is_told f.0 f.1 in
          record {
            name = f.0.name;
            entries = l.0;
            file = l.1;
            kind = edits_only r f.0.name (are.each f.0.name (read.among f.0 f.1)) (read.hold f.0 f.1);
            member = subst (λ (d : Entry). Contains l.0 d) f.2 l.2;
          }

      -- the file of an entry of the region is one of its edits files
      file_region : (e : Entry) (logged : IsLogged files e) → e.region ≡ r → IsEditsOf r logged.name
      file_region e logged region =
          let kind = no_log_edits files no_logs logged.name logged.entries logged.file in
          let mine = entry_region files logged.name logged.entries e logged.file logged.member (regions logged.name kind (λ gone. absurd (cc (sym gone ∙ logged.file.there)))) in
          (sym mine ∙ region, kind)

      all_unflushed : (e : Entry) → IsLogged files e → e.region ≡ r → IsUnflushedEntry files e → Contains x.unflushed.items e
      all_unflushed e logged region unflushed =
          let own = file_region e logged region in
          let has = are.all is_told logged.name (own.0, inr own.1) (λ gone. absurd (cc (sym gone ∙ logged.file.there))) in
          let l = read.logs is_told logged.name has logged.file.kind in
          let member : Contains l.0 e = subst (λ (k : List Entry). Contains k e) (one_list files logged.name logged.entries l.0 logged.file l.1) logged.member in
          elim (of.parts.all (place_in logged.name e) (l.2 e member) is_above) as (λ _. Contains x.unflushed.items e) [
            | inl in_log ↦ (
                let f = of.parts.from_logs e in_log in
                absurd (not_log f.0.name (are.each f.0.name (read.among f.0 f.1)) f.3))
            | inr kept ↦ subst (λ (k : List Entry). Contains k e) (sym of.unflushed) (to_filter (is_of r) of.kept e kept (eq-eqb e.region r region))
          ]
        where
          not_log : (m : Name) → IsOfRegion r m → m.kind ≡ kinds.Log → ⊥
          not_log m own log = elim own.1 as (λ _. ⊥) [ inl store ↦ absurd (cc (sym store ∙ log)) | inr edits ↦ absurd (cc (sym edits ∙ log)) ]

          up : IsAboveBy (flushed_of x.flushed) e
          up = unflushed_above files e (flushed_of x.flushed) (λ f. subst (λ (q : ℕ). IsFlushed files q f (flushed_of x.flushed f)) (sym region) (flushed_is f (flushed_of x.flushed f) (flushed_by.each f))) (logged_given files e logged) unflushed

          is_above : IsAbove of.flushed e
          is_above = subst (λ (q : ℕ). IsAboveBy (flushed_at of.flushed q) e) (sym region) (up.0, up.1, subst (λ (n : ℕ). n < e.number) (sym (own_flushed up.0)) up.2)

      unflushed_apart : AreApart x.unflushed.items
      unflushed_apart = subst AreApart (sym of.unflushed) (apart_of (entries_of r of.kept) rise)
        where
          rise : AllPairs (λ a b. a.number < b.number) (entries_of r of.kept)
          rise i n d less within =
              let ks : List Entry = entries_of r of.kept in
              let first = in_filter (is_of r) of.kept (get_or ks i d) (Contains-get_or ks i d (omega (arith, less, within))) in
              let second = in_filter (is_of r) of.kept (get_or ks n d) (Contains-get_or ks n d within) in
              let a = eqb-true (get_or ks i d).region r first.1 in
              let b = eqb-true (get_or ks n d).region r second.1 in
              elim (AllPairs-filter IsBefore (is_of r) of.kept of.parts.kept_rise i n d less within) as (λ _. (get_or ks i d).number < (get_or ks n d).number) [
                | inl lower ↦ absurd (omega (arith, lower, a, b))
                | inr same ↦ same.1
              ]

      are_unflushed : AreUnflushed files r x.unflushed.items
      are_unflushed = record {
        each = λ e has. (
            let d = edited e has in
            (record { name = d.name; entries = d.entries; file = d.file; member = d.member }, (kept_of e has).1, not_flushed e (kept_of e has).1 (above_of e has)));
        all = all_unflushed;
        apart = unflushed_apart;
      }
        where
          not_flushed : (e : Entry) → e.region ≡ r → IsAboveBy (flushed_of x.flushed) e → IsUnflushedEntry files e
          not_flushed e region (f, has, above) = (f, has, λ n g. (let bound = (flushed_by.each f).bound n (flushes_goes files r ss counting_now f n (subst (λ (q : ℕ). FlushesTo files q f n) region g)) in omega (arith, bound, above)))

      texts : (m : Name) → Contains x.edits.items m → (l : List Entry) × (ended : Option ℕ) × HasText m l ended (content files m) × ((e : Entry) → Contains l e → e.region ≡ x.region)
      texts m has =
          let own = edits_of_it m has in
          let f = read.logs is_told m own.0 (inr own.1) in
          (f.0, f.1.ended, record { bytes = f.1.bytes; there = f.1.there; text = f.1.text }, λ e member. entry_region files m f.0 e f.1 member (let region = own.2 in omega (arith, region, given)) ∙ own.2 ∙ sym of.region)

      pub is_found : IsFound files x
      is_found = record {
        stores = map numbered ss;
        are_stores = subst (λ (q : ℕ). AreStores files q (map numbered ss)) (sym of.region) are_stores;
        cells = of.stored ∙ cells_same ss;
        unflushed = subst (λ (q : ℕ). AreUnflushed files q x.unflushed.items) (sym of.region) are_unflushed;
        edited = edited;
        whole = subst (λ (q : ℕ). IsFlushed files q [] x.flushed.whole) (sym of.region) (flushed_is [] x.flushed.whole flushed_by.whole);
        flushed = λ f. subst (λ (q : ℕ). IsFlushed files q f (flushed_of x.flushed f)) (sym of.region) (flushed_is f (flushed_of x.flushed f) (flushed_by.each f));
        last = subst (λ (q : ℕ). IsGreatest (Reaches files q) x.flushed.last) (sym of.region) last_is;
        next = λ m store region here. of.next.above m (are.all is_told m (region ∙ of.region, inl store) here) store;
        few = λ n bound. elim of.next.one as (λ _. x.next_store ≤ n + 1) [
          | inl is ↦ omega (arith, is)
          | inr (m, has, store, is) ↦ (let below = bound m store ((are.each m has).0 ∙ sym of.region) (are.there is_told m has) in omega (arith, is, below))
        ];
        texts = texts;
        all = λ m edits region here. to_edits m (are.all is_told m (region ∙ of.region, inr edits) here) edits;
      }
