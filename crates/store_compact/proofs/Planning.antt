-- The cells of a region's stores, one after the other, put in order are what is stored of it.
use Rattle.std.proofs.Common.{◌≡◌, ◌↔◌, ℕ, ◌<◌, ◌≤◌, ◌^◌, List, [], ◌∷◌, map, Contains, Some, refl, sym, ap, ◌∙◌, subst, arith}
use Rattle.std.specs.FinMap.{get, empty}
use Rattle.std.specs.List.{AllByRecursion}
use Rattle.cell_model.specs.Cell.{IsCell}
use Rattle.cell_model.specs.Order.{VersionKey, Payload, Content, NumberedCell, cells_of}
use Rattle.cell_model.specs.Merge.{put_numbered}
use Rattle.log_model.specs.declared.name.Name.{Name}
use Rattle.log_model.specs.StoreText.{Store, IsStore, IsStoredCell}
use Rattle.log_model.specs.Files.{Files}
use Rattle.log_model.specs.Recovered.{IsCounting, IsStored}
use Rattle.recovery_laws.specs.Kept.{HasNoLogs}
use Rattle.mem_segments.proofs.Contents.{rising-cells_of, content_of-cells_of, rising_content}
use Rattle.flush_snapshot.specs.Cut.{cut_store, IsWithin, AreOf}
use Rattle.flush_snapshot.proofs.Cuts.{cut_is_store}
use Rattle.found_files.specs.declared.found.FoundStore.{FoundStore}
use Rattle.found_files.specs.Found.{store_of}
use Rattle.region_replay.specs.Bases.{Numbered, AreRising, stores_cells}
use Rattle.region_replay.specs.Dealt as dealt
use Rattle.region_replay.proofs.Sorting.{HasCell, put_all, Each, got_has, has_got, got_newest, newest_got, is_first, is_later}
use Rattle.region_replay.proofs.Lists.{in_map, to_map}
use Rattle.region_replay.proofs.Finding.{all_append, weaker_all}
use Rattle.region_replay.proofs.RegionsInOrder.{numbered, rising_of, cells_same}
use Rattle.store_compact.specs.declared.kind.CompactKind.{CompactKind}
use Rattle.store_compact.specs.Compacting.{kept_by, AreStoredCells}
use Rattle.store_compact.specs.Plan.{whole_store, AreCovered, AreToReplace}
use Rattle.store_compact.proofs.Planned.{IsPlan}

-- a content has at a version what its cells have
in_cells : (m : Content) (v : VersionKey) (p : Payload) → (get m v ≡ Some p) ↔ HasCell (cells_of m) v p
in_cells m v p =
    let same : put_all (cells_of m) ≡ m = sym (rising_content (cells_of m) (rising-cells_of m)) ∙ content_of-cells_of m in (
      λ is. got_has (cells_of m) v p (ap (λ (c : Content). get c v) same ∙ is),
      λ h. ap (λ (c : Content). get c v) (sym same) ∙ has_got (cells_of m) v p (rising-cells_of m) h,
    )

module _ (told : Type 0) (is_told : told) (found : Files) (name : Name) (names : List Name) (ss : List FoundStore) (these : AreToReplace told found name names ss) where
  abbrev ns : List Numbered
  ns = map numbered ss

  each_numbered : (x : Numbered) → Contains ns x → (m : Name) × IsCounting found name.region m x.1 × (m.number ≡ x.0)
  each_numbered x has =
      let q = in_map numbered ss x has in
      subst (λ (w : Numbered). (m : Name) × IsCounting found name.region m w.1 × (m.number ≡ w.0)) q.2
      (q.0.name, (these.counting is_told).each q.0 q.1 (these.each q.0 q.1).2, refl)

  all_numbered : (m : Name) (s : Store) → IsCounting found name.region m s → Contains ns (m.number, s)
  all_numbered m s c =
      let q = (these.counting is_told).all m s c in
      subst (λ (t : Store). Contains ns (m.number, t)) (sym q.3) (subst (λ (n : Name). Contains ns (n.number, store_of q.0)) q.2 (to_map numbered ss q.0 q.1))

  each_rises : Each ns
  each_rises x has = (each_numbered x has).1.file.text.store.rising

  numbers_rise : AreRising ns
  numbers_rise = rising_of name.region ss (these.in_order is_told) (λ y has. ((these.each y has).1, (these.each y has).2))

  -- the newest of them is what is stored
  to_stored : (v : VersionKey) (p : Payload) → get (put_all (stores_cells ns)) v ≡ Some p → IsStored found name.region v p
  to_stored v p is =
      let h = got_newest ns v p each_rises numbers_rise is in
      let f = each_numbered h.at h.among in
      record {
        name = f.0;
        store = h.at.1;
        file = f.1;
        holds = h.holds;
        newest = λ other s q file holds. (let low : other.number ≤ h.at.0 = h.last (other.number, s) q (all_numbered other s file) holds in omega (arith, low, f.2));
      }

  from_stored : (v : VersionKey) (p : Payload) → IsStored found name.region v p → get (put_all (stores_cells ns)) v ≡ Some p
  from_stored v p st = newest_got ns v p each_rises numbers_rise (record {
    at = (st.name.number, st.store);
    among = all_numbered st.name st.store st.file;
    holds = st.holds;
    last = λ y q has holds. (let f = each_numbered y has in let low : f.0.number ≤ st.name.number = st.newest f.0 y.1 q f.1 holds in omega (arith, low, f.2));
  })

  pub stored_cells : (merged : Content) → merged ≡ put_numbered empty (dealt.cells_of ss) → AreStoredCells found name.region (cells_of merged)
  stored_cells merged is =
      let same : merged ≡ put_all (stores_cells ns) = is ∙ ap (λ (l : List NumberedCell). put_all l) (cells_same ss) in
      record {
        rising = rising-cells_of merged;
        same = λ v p. (
          λ st. (in_cells merged v p).0 (ap (λ (c : Content). get c v) same ∙ from_stored v p st),
          λ h. to_stored v p (ap (λ (c : Content). get c v) (sym same) ∙ (in_cells merged v p).1 h),
        );
      }

  pub planned : HasNoLogs found → (from to : ℕ) → AreCovered ss from to → (kind : CompactKind) (cells : List NumberedCell) → AreStoredCells found name.region cells → IsStore (whole_store name from to (kept_by kind cells))
      → IsPlan found kind name (whole_store name from to (kept_by kind cells))
  planned no_logs from to covered kind cells before store = record {
    store_kind = these.kind;
    region = refl;
    store = store;
    scope = refl;
    number = record {
      given = these.number.given;
      above = λ m is region present. these.number.above m (these.every is_told m is region present) is;
      least = λ k bound. these.number.least k (λ m has is. bound m is (these.of m has) (these.there is_told m has));
    };
    cells = cells;
    before = before;
    kept = refl;
    from = (
      λ m t c. (let q = (these.counting is_told).all m t c in let low = covered.low q.0 q.1 in let same : t.from ≡ q.0.text.from = ap (λ (u : Store). u.from) q.3 in omega (arith, low, same)),
      let x = covered.first in (x.0.name, store_of x.0, (these.counting is_told).each x.0 x.1 (these.each x.0 x.1).2, x.2),
    );
    to = (
      λ m t c. (let q = (these.counting is_told).all m t c in let high = covered.high q.0 q.1 in let same : t.to ≡ q.0.text.to = ap (λ (u : Store). u.to) q.3 in omega (arith, high, same)),
      let x = covered.last in (x.0.name, store_of x.0, (these.counting is_told).each x.0 x.1 (these.each x.0 x.1).2, x.2),
    );
    no_logs = no_logs;
  }

-- ---- the store of them

cells_within : (from to : ℕ) (ss : List FoundStore) → ((x : FoundStore) → Contains ss x → IsStore (store_of x) × (from ≤ x.text.from) × (x.text.to ≤ to)) → IsWithin from to (dealt.cells_of ss)
cells_within from to [] each = tt
cells_within from to (x ∷ xs) each =
    let one = each x (is_first x xs) in
    all_append (λ (c : NumberedCell). (from ≤ c.0) × (c.0 ≤ to)) x.text.cells (dealt.cells_of xs)
    (weaker_all (IsStoredCell (store_of x)) (λ (c : NumberedCell). (from ≤ c.0) × (c.0 ≤ to)) x.text.cells
    (λ c is. (let low = is.from in let high = is.to in (omega (arith, low, one.1), omega (arith, high, one.2)))) one.0.each)
    (cells_within from to xs (λ y has. each y (is_later x xs y has)))

of_any : (cells : List NumberedCell) → AreOf [] cells
of_any [] = tt
of_any (x ∷ xs) = (λ some. absurd (some refl), of_any xs)

-- a store of the scope 1 with the same cells
whole_of : (name : Name) (from to : ℕ) (cut : List NumberedCell) → IsStore (cut_store name [] from to cut) → IsStore (whole_store name from to (cells_of (put_numbered empty cut)))
whole_of name from to cut is = record {
  region = is.region;
  scope = omega arith;
  family = omega arith;
  whole = λ one. refl;
  from = is.from;
  to = is.to;
  limit = is.limit;
  each = weaker_all (IsStoredCell (cut_store name [] from to cut)) (IsStoredCell (whole_store name from to (cells_of (put_numbered empty cut)))) (cells_of (put_numbered empty cut))
      (λ x c. record { cell = c.cell; family = c.family; from = c.from; to = c.to }) is.each;
  rising = is.rising;
}

module _ {told : Type 0} {found : Files} {names : List Name} (name : Name) (region : name.region < 2 ^ 32) (from to : ℕ) (ss : List FoundStore) (these : AreToReplace told found name names ss) (covered : AreCovered ss from to) where
  range : (1 ≤ from) × (from ≤ to) × (to < 2 ^ 48)
  range =
      let low = covered.first in
      let high = covered.last in
      let first = (these.each low.0 low.1).0 in
      let last = (these.each high.0 high.1).0 in
      let given = first.from in
      let up = first.to in
      let over = covered.high low.0 low.1 in
      let limit = last.limit in
      (omega (arith, given, low.2), omega (arith, up, over, low.2), omega (arith, limit, high.2))

  pub merged_store : (merged : Content) → merged ≡ put_numbered empty (dealt.cells_of ss) → AllByRecursion (λ x. IsCell x.1) (dealt.cells_of ss) → IsStore (whole_store name from to (cells_of merged))
  merged_store merged is cells = subst (λ (m : Content). IsStore (whole_store name from to (cells_of m))) (sym is)
      (whole_of name from to (dealt.cells_of ss) (cut_is_store name [] from to (dealt.cells_of ss) region (omega arith) (of_any (dealt.cells_of ss)) range
      (cells_within from to ss (λ x has. ((these.each x has).0, covered.low x has, covered.high x has))) cells))
