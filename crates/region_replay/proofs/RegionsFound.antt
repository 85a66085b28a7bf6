-- What the regions have is what stands in the files.
use Rattle.std.proofs.Common.{◌≡◌, ◌≢◌, inl, inr, ℕ, ◌+◌, ◌<◌, ◌≤◌, ◌==◌, ◌&&◌, List, [], ◌++◌, map, get_or, Contains, Option, None, refl, sym, ap, ◌∙◌, subst, arith}
use Rattle.std.specs.Prelude.{AllPairs}
use Rattle.std.specs.declared.cmp.Ordering.TheVariants.{Less}
use Rattle.std.proofs.lemmas.Bool.{eq-eqb, eqb-true}
use Rattle.std.proofs.lemmas.List.Kept.{AllPairs-filter}
use Rattle.std.proofs.lemmas.List.Elements.{Contains-append_left, Contains-append_right, Contains-get_or}
use Rattle.log_model.specs.declared.name.Name.{Name}
use Rattle.log_model.specs.declared.name.NameKind.TheVariants as kinds
use Rattle.log_model.specs.Entry.{Entry, IsEntry}
use Rattle.log_model.specs.StoreText.{Store}
use Rattle.log_model.specs.Files.{Files, content, name_cmp, IsPresent}
use Rattle.log_model.specs.Recovered.{IsGreatest, IsCounting, FlushesTo, IsFlushed, is_of, entries_of}
use Rattle.recovery_laws.specs.Change.{HasText}
use Rattle.recovery_laws.specs.Kept.{AreApart}
use Rattle.found_files.specs.declared.found.FoundStore.{FoundStore}
use Rattle.found_files.specs.Found.{store_of}
use Rattle.found_files.specs.Counting.{AreCountingOf}
use Rattle.found_files.proofs.Greatest.{greatest_same}
use Rattle.wal_split.specs.declared.flushed.RegionFlushed.{RegionFlushed}
use Rattle.wal_split.specs.declared.job.EditsJob.{EditsJob}
use Rattle.wal_split.specs.declared.split_files.SplitFiles.{SplitFiles}
use Rattle.wal_split.specs.Flushed as by_stores
use Rattle.wal_split.specs.Flushed.{GoesTo, IsFlushedBy, flushed_of}
use Rattle.wal_split.specs.Unflushed.{IsBefore, IsAboveBy, IsUnflushedEntry}
use Rattle.wal_split.proofs.Above.{goes_flushes, flushes_goes}
use Rattle.wal_split.specs.Left.{IsInRange, AreLeft}
use Rattle.region_replay.specs.declared.found.RegionFiles.{RegionFiles}
use Rattle.region_replay.specs.Bases.{Numbered, AreStores, AreUnflushed}
use Rattle.region_replay.specs.Regions.{Reaches, IsEdited, IsFound}
use Rattle.region_replay.specs.Dealt.{stores_of, is_edits, edits_of, written_name, IsDealt}
use Rattle.region_replay.proofs.Shares.{true_and}
use Rattle.region_replay.proofs.RegionsInOrder.{numbered, rising_of, cells_same, to_written, flushed_by, entry_cases, of_entry, store_in, edits_cases, name_is}
use Rattle.found_files.proofs.InRegion.{entry_region}
use Rattle.found_files.proofs.Filters.{in_filter, to_filter}
use Rattle.region_replay.proofs.Lists.{in_map, to_map, apart_of, apart_append}

module _ (told : Type 0) (x : SplitFiles) (range : IsInRange x) (k : ℕ) (lt : k < 64) (j : EditsJob) (u : RegionFlushed) (y : RegionFiles) (valid : (e : Entry) → Contains x.plan.kept.items e → IsEntry e)
    (one : IsDealt (get_or x.plan.jobs.items k j) (k + 1) (get_or x.plan.flushed.items (k + 1) u) x.names x.stores.items x.plan.kept.items y) where
  abbrev job : EditsJob
  job = get_or x.plan.jobs.items k j

  by : IsFlushedBy x.stores.items (k + 1) y.flushed
  by = flushed_by told x range k lt j u y valid one

  module _ (files : Files) (left : AreLeft files x) where
    job_file : (e : Entry) → Contains job.entries.items e → HasText job.name job.entries.items None (content files job.name)
    job_file e has = left.written k j e lt has

    edited : (e : Entry) → Contains y.unflushed.items e → IsEdited files e
    edited e has = elim (entry_cases told x range k lt j u y valid one e has) as (λ _. IsEdited files e) [
      | inl mine ↦ (
          let text = job_file e mine in
          let edits : job.name.kind ≡ kinds.Edits = ap (λ (n : Name). n.kind) (name_is told x range k lt j u y valid one) in
          record { name = job.name; entries = job.entries.items; file = record { kind = inr edits; bytes = text.bytes; there = text.there; ended = None; text = text.text }; kind = edits; member = mine })
      | inr other ↦ (let r = left.kept e other.0 in record { name = r.0; entries = r.1; file = r.3; kind = r.2; member = r.4 })
    ]

    -- the stores that count in the files are those that were left
    counting : AreCountingOf files (k + 1) x.stores.items
    counting = record {
      each = λ s has region. subst (λ (i : ℕ). IsCounting files i s.name (store_of s)) region (left.stores s has);
      all = λ m s counts. left.all_stores m s (subst (λ (i : ℕ). IsCounting files i m s) (sym counts.file.of) counts);
    }

    flushed_is : (f : List ℕ) (n : ℕ) → IsGreatest (GoesTo x.stores.items (k + 1) f) n → IsFlushed files (k + 1) f n
    flushed_is f n is = greatest_same (GoesTo x.stores.items (k + 1) f) (FlushesTo files (k + 1) f) n is (goes_flushes files (k + 1) x.stores.items counting f) (flushes_goes files (k + 1) x.stores.items counting f)

    last_is : IsGreatest (Reaches files (k + 1)) y.flushed.last
    last_is = greatest_same (by_stores.Reaches x.stores.items (k + 1)) (Reaches files (k + 1)) y.flushed.last by.last
        (λ n h. (h.0.name, store_of h.0, counting.each h.0 h.1 h.2, h.3))
        (λ n h. (let q = counting.all h.0 h.1 h.2 in (q.0, q.1, ap (λ (m : Name). m.region) q.2 ∙ h.2.file.of, ap (λ (t : Store). t.to) (sym q.3) ∙ h.3)))

    are_stores : AreStores files (k + 1) (map numbered (stores_of (k + 1) x.stores.items))
    are_stores = record {
      each = λ z has. (
          let q = in_map numbered (stores_of (k + 1) x.stores.items) z has in
          let r = store_in told x range k lt j u y valid one q.0 q.1 in
          subst (λ (w : Numbered). (name : Name) × IsCounting files (k + 1) name w.1 × (name.number ≡ w.0)) q.2
          (q.0.name, counting.each q.0 r.0 r.1, refl));
      all = λ name s counts. (
          let q = counting.all name s counts in
          let region : q.0.name.region ≡ k + 1 = ap (λ (m : Name). m.region) q.2 ∙ counts.file.of in
          let member = to_map numbered (stores_of (k + 1) x.stores.items) q.0 (to_filter (λ (z : FoundStore). z.name.region == (k + 1)) x.stores.items q.0 q.1 (eq-eqb q.0.name.region (k + 1) region)) in
          subst (λ (t : Store). Contains (map numbered (stores_of (k + 1) x.stores.items)) (name.number, t)) (sym q.3)
          (subst (λ (m : Name). Contains (map numbered (stores_of (k + 1) x.stores.items)) (m.number, store_of q.0)) q.2 member));
      rising = rising_of (k + 1) (stores_of (k + 1) x.stores.items) (AllPairs-filter (λ (a b : FoundStore). name_cmp a.name b.name ≡ Less) (λ (z : FoundStore). z.name.region == (k + 1)) x.stores.items left.rising) (λ s has. (
          let r = store_in told x range k lt j u y valid one s has in ((range.stores s r.0).2, r.1)));
    }

    unflushed_apart : AreApart y.unflushed.items
    unflushed_apart = subst AreApart (sym one.unflushed) (apart_append job.entries.items (entries_of (k + 1) x.plan.kept.items) (apart_of job.entries.items (left.jobs_rise k j lt)) (apart_of (entries_of (k + 1) x.plan.kept.items) kept_rise)
        (λ a b in_job in_kept. (
        let r = in_filter (is_of (k + 1)) x.plan.kept.items b in_kept in
        left.apart k j a b lt in_job r.0 ((range.pending k j a lt in_job).0 ∙ sym (eqb-true b.region (k + 1) r.1)))))
      where
        kept_rise : AllPairs (λ a b. a.number < b.number) (entries_of (k + 1) x.plan.kept.items)
        kept_rise i n d less within =
            let es : List Entry = entries_of (k + 1) x.plan.kept.items in
            let first = in_filter (is_of (k + 1)) x.plan.kept.items (get_or es i d) (Contains-get_or es i d (omega (arith, less, within))) in
            let second = in_filter (is_of (k + 1)) x.plan.kept.items (get_or es n d) (Contains-get_or es n d within) in
            let a = eqb-true (get_or es i d).region (k + 1) first.1 in
            let b = eqb-true (get_or es n d).region (k + 1) second.1 in
            elim (AllPairs-filter IsBefore (is_of (k + 1)) x.plan.kept.items left.kept_rise i n d less within) as (λ _. (get_or es i d).number < (get_or es n d).number) [
              | inl lower ↦ absurd (omega (arith, lower, a, b))
              | inr same ↦ same.1
            ]

    are_unflushed : AreUnflushed files (k + 1) y.unflushed.items
    are_unflushed = record {
      each = λ e has. (
          let d = edited e has in
          let r = of_entry told x range k lt j u y valid one e has in
          (record { name = d.name; entries = d.entries; file = d.file; member = d.member }, r.0, unflushed e r.0 r.2));
      all = λ e logged region not_flushed. subst (λ (l : List Entry). Contains l e) (sym one.unflushed) (
          elim (left.all e logged not_flushed) as (λ _. Contains (job.entries.items ++ entries_of (k + 1) x.plan.kept.items) e) [
            | inl (i, within, there) ↦ (
                let p = range.pending i j e within (there j) in
                let at : i ≡ k = omega (arith, p.0, region) in
                Contains-append_left job.entries.items (entries_of (k + 1) x.plan.kept.items) e (subst (λ (n : ℕ). Contains (get_or x.plan.jobs.items n j).entries.items e) at (there j)))
            | inr kept ↦ Contains-append_right job.entries.items (entries_of (k + 1) x.plan.kept.items) e (to_filter (is_of (k + 1)) x.plan.kept.items e kept (eq-eqb e.region (k + 1) region))
          ]);
      apart = unflushed_apart;
    }
      where
        unflushed : (e : Entry) → e.region ≡ k + 1 → IsAboveBy (flushed_of y.flushed) e → IsUnflushedEntry files e
        unflushed e region (f, has, above) = (f, has, λ n g. (let low = (by.each f).bound n (flushes_goes files (k + 1) x.stores.items counting f n (subst (λ (r : ℕ). FlushesTo files r f n) region g)) in omega (arith, low, above)))

    texts : (m : Name) → Contains y.edits.items m → (es : List Entry) × (ended : Option ℕ) × HasText m es ended (content files m) × ((e : Entry) → Contains es e → e.region ≡ y.region)
    texts m has = elim (edits_cases told x range k lt j u y valid one m has) as (λ _. (es : List Entry) × (ended : Option ℕ) × HasText m es ended (content files m) × ((e : Entry) → Contains es e → e.region ≡ y.region)) [
      | inl mine ↦ (job.entries.items, None, subst (λ (n : Name). HasText n job.entries.items None (content files n)) mine.0 (job_file mine.1.0 mine.1.1), λ e member. (range.pending k j e lt member).0 ∙ sym one.region)
      | inr other ↦ (
          let f = left.edits m other.0 other.1 in
          let region = other.2 in
          (f.0, f.1.ended, record { bytes = f.1.bytes; there = f.1.there; text = f.1.text }, λ e member. entry_region files m f.0 e f.1 member (omega (arith, region)) ∙ other.2 ∙ sym one.region))
    ]

    all_edits : (m : Name) → m.kind ≡ kinds.Edits → m.region ≡ y.region → IsPresent files m → Contains y.edits.items m
    all_edits m edits region here = subst (λ (l : List Name). Contains l m) (sym one.edits) (elim (left.all_edits m edits here) as (λ _. Contains (written_name job.entries.items job.name ++ edits_of (k + 1) x.names) m) [
      | inl old ↦ Contains-append_right (written_name job.entries.items job.name) (edits_of (k + 1) x.names) m (to_filter (λ (n : Name). is_edits n.kind && (n.region == (k + 1))) x.names m old
          (true_and (is_edits m.kind) (m.region == (k + 1)) (ap is_edits edits) (eq-eqb m.region (k + 1) (region ∙ one.region))))
      | inr (i, within, both) ↦ (
          let mine = both j in
          let named : m.region ≡ i + 1 = ap (λ (n : Name). n.region) (mine.0 ∙ range.named i j within) in
          let r = one.region in
          let at : i ≡ k = omega (arith, named, region, r) in
          let now : (m ≡ job.name) × (job.entries.items ≢ []) = subst (λ (n : ℕ). (m ≡ (get_or x.plan.jobs.items n j).name) × ((get_or x.plan.jobs.items n j).entries.items ≢ [])) at mine in
          Contains-append_left (written_name job.entries.items job.name) (edits_of (k + 1) x.names) m (subst (λ (n : Name). Contains (written_name job.entries.items job.name) n) (sym now.0) (to_written job.entries.items job.name now.1)))
    ])

    pub is_found : IsFound files y
    is_found = record {
      stores = map numbered (stores_of (k + 1) x.stores.items);
      are_stores = subst (λ (r : ℕ). AreStores files r (map numbered (stores_of (k + 1) x.stores.items))) (sym one.region) are_stores;
      cells = one.stored ∙ cells_same (stores_of (k + 1) x.stores.items);
      unflushed = subst (λ (r : ℕ). AreUnflushed files r y.unflushed.items) (sym one.region) are_unflushed;
      edited = edited;
      whole = subst (λ (r : ℕ). IsFlushed files r [] y.flushed.whole) (sym one.region) (flushed_is [] y.flushed.whole by.whole);
      flushed = λ f. subst (λ (r : ℕ). IsFlushed files r f (flushed_of y.flushed f)) (sym one.region) (flushed_is f (flushed_of y.flushed f) (by.each f));
      last = subst (λ (r : ℕ). IsGreatest (Reaches files r) y.flushed.last) (sym one.region) last_is;
      next = λ m store region here. one.above m (left.store_names m store here) store (region ∙ one.region);
      few = λ n bound. elim one.next as (λ _. y.next_store ≤ n + 1) [
        | inl is ↦ omega (arith, is)
        | inr (m, has, store, of, is) ↦ (let low = bound m store (of ∙ sym one.region) (left.stores_stay m store has) in omega (arith, is, low))
      ];
      texts = texts;
      all = all_edits;
    }
