-- What was read and left of a store goes to its regions.
use Rattle.std.proofs.Common.{◌≡◌, ◌≢◌, ◌⊎◌, inl, inr, ℕ, Bool, true, false, cond, ◌+◌, ◌-◌, ◌<◌, ◌≤◌, ◌^◌, ◌==◌, ◌&&◌, List, [], ◌∷◌, ◌++◌, length, get_or, slice_set, refl, sym, ap, ◌∙◌, subst, arith, get_or-set_other, get_or-set_same, length-append}
use Rattle.std.proofs.Math.ListN.{length-set}
use Rattle.std.proofs.lemmas.Bool.{cases_eq, cases_lt, eq-eqb, ne_eqb}
use Rattle.std.proofs.lemmas.Grind.{flat_map-append}
use Rattle.std.proofs.Math.Seq.{get_or-append_seam}
use Rattle.std.proofs.lemmas.List.{append-nil, append_assoc, get_or_append_left}
use Rattle.std.proofs.lemmas.List.Elements.{Contains-append_left, Contains-push, Contains-push_cases, filter-append}
use Rattle.cell_model.specs.Order.{NumberedCell}
use Rattle.log_model.specs.declared.name.Name.{Name}
use Rattle.log_model.specs.declared.name.NameKind.{NameKind}
use Rattle.log_model.specs.declared.name.NameKind.TheVariants as kinds
use Rattle.log_model.specs.Entry.{Entry, IsEntry}
use Rattle.log_model.specs.Recovered.{entries_of}
use Rattle.found_files.specs.declared.found.FoundStore.{FoundStore}
use Rattle.found_files.specs.Names.{IsBadAmong}
use Rattle.wal_split.specs.declared.flushed.RegionFlushed.{RegionFlushed}
use Rattle.wal_split.specs.declared.job.EditsJob.{EditsJob}
use Rattle.wal_split.specs.Grouped.{edits_name}
use Rattle.wal_split.proofs.Grouped.{of_more}
use Rattle.region_replay.specs.declared.found.RegionFiles.{RegionFiles}
use Rattle.region_replay.specs.Dealt.{IsNext, stores_of, cells_of, is_edits, edits_of, written_name, IsGood, IsDealt, AreDealt, AreBegun, Deals, DealsName, AddsEdits, RaisesNext, AddsStored, AddsEntry}
use Rattle.region_replay.proofs.Sorting.{none_in}

-- a step of one region leaves the others
deals_cases : (r : ℕ) (step : RegionFiles → RegionFiles → Type 0) (old new : List RegionFiles) → Deals r step old new → 1 ≤ r → r ≤ 64 → length old ≡ 64
    → (k : ℕ) (d : RegionFiles) → ((k + 1 ≡ r) × step (get_or old k d) (get_or new k d)) ⊎ ((k + 1 ≢ r) × (get_or new k d ≡ get_or old k d))
deals_cases r step old new deals given low long k d = elim (cases_eq (k + 1) r) as (λ _. ((k + 1 ≡ r) × step (get_or old k d) (get_or new k d)) ⊎ ((k + 1 ≢ r) × (get_or new k d ≡ get_or old k d))) [
  | inl is ↦ (
      let at : r - 1 ≡ k = omega (arith, is) in
      let within : r - 1 < length old = omega (arith, given, low, long) in
      let here : deals.0 ≡ get_or new k d = sym (ap (λ (l : List RegionFiles). get_or l k d) deals.1 ∙ ap (λ (i : ℕ). get_or (slice_set old i deals.0) k d) at ∙ ap (λ (i : ℕ). get_or (slice_set old k deals.0) i d) refl ∙ get_or-set_same old k deals.0 d (omega (arith, within, at))) in
      inl (is, subst (λ (y : RegionFiles). step (get_or old k d) y) here (subst (λ (i : ℕ). step (get_or old i d) deals.0) at (deals.2 d))))
  | inr apart ↦ (
      let away : k ≢ r - 1 = (λ at. apart (omega (arith, at, given))) in
      inr (apart, ap (λ (l : List RegionFiles). get_or l k d) deals.1 ∙ get_or-set_other old (r - 1) k deals.0 d away))
]

pub deals_long : (r : ℕ) (step : RegionFiles → RegionFiles → Type 0) (old new : List RegionFiles) → Deals r step old new → length old ≡ 64 → length new ≡ 64
deals_long r step old new deals long = ap length deals.1 ∙ length-set old (r - 1) deals.0 ∙ long

and_false : (a b : Bool) → b ≡ false → (a && b) ≡ false
and_false true b is = is
and_false false b is = refl

false_and : (a b : Bool) → a ≡ false → (a && b) ≡ false
false_and true b is = absurd (cc is)
false_and false b is = refl

pub true_and : (a b : Bool) → a ≡ true → b ≡ true → (a && b) ≡ true
true_and true b is this = this
true_and false b is this = absurd (cc is)

abbrev is_edits_of : ℕ → Name → Bool
is_edits_of r m = is_edits m.kind && (m.region == r)

edits_more : (r : ℕ) (ns : List Name) (name : Name) → edits_of r (ns ++ name ∷ []) ≡ edits_of r ns ++ cond (is_edits_of r name) (name ∷ []) []
edits_more r ns name = filter-append (λ (m : Name). is_edits_of r m) ns (name ∷ [])

edits_not_more : (r : ℕ) (ns : List Name) (name : Name) → is_edits_of r name ≡ false → edits_of r (ns ++ name ∷ []) ≡ edits_of r ns
edits_not_more r ns name not = edits_more r ns name ∙ ap (λ (b : Bool). edits_of r ns ++ cond b (name ∷ []) []) not ∙ append-nil (edits_of r ns)

edits_one_more : (r : ℕ) (ns : List Name) (name : Name) → is_edits_of r name ≡ true → edits_of r (ns ++ name ∷ []) ≡ edits_of r ns ++ name ∷ []
edits_one_more r ns name is = edits_more r ns name ∙ ap (λ (b : Bool). edits_of r ns ++ cond b (name ∷ []) []) is

-- ---- a name

module _ (job : EditsJob) (r : ℕ) (upto : RegionFlushed) (ns : List Name) (ss : List FoundStore) (ks : List Entry) (name : Name) where
  next_on : (n : ℕ) → IsNext r ns n → IsNext r (ns ++ name ∷ []) n
  next_on n (inl one) = inl one
  next_on n (inr (m, has, store, region, is)) = inr (m, Contains-append_left ns (name ∷ []) m has, store, region, is)

  keep_name : (x : RegionFiles) → is_edits_of r name ≡ false → (name.kind ≡ kinds.Store → name.region ≡ r → ⊥) → IsDealt job r upto ns ss ks x → IsDealt job r upto (ns ++ name ∷ []) ss ks x
  keep_name x not none old = record {
    region = old.region;
    stored = old.stored;
    unflushed = old.unflushed;
    flushed = old.flushed;
    edits = old.edits ∙ ap (λ (l : List Name). written_name job.entries.items job.name ++ l) (sym (edits_not_more r ns name not));
    above = λ m has store region. elim (Contains-push_cases ns name m has) as (λ _. m.number < x.next_store) [
      | inl before ↦ old.above m before store region
      | inr is ↦ absurd (none (ap (λ (n : Name). n.kind) is ∙ store) (ap (λ (n : Name). n.region) is ∙ region))
    ];
    next = next_on x.next_store old.next;
  }

  raise_name : (x y : RegionFiles) → name.kind ≡ kinds.Store → name.region ≡ r → RaisesNext name.number x y → IsDealt job r upto ns ss ks x → IsDealt job r upto (ns ++ name ∷ []) ss ks y
  raise_name x y store of step old = record {
    region = step.region ∙ old.region;
    stored = step.stored ∙ old.stored;
    unflushed = step.unflushed ∙ old.unflushed;
    flushed = step.flushed ∙ old.flushed;
    edits = step.edits ∙ old.edits ∙ ap (λ (l : List Name). written_name job.entries.items job.name ++ l) (sym (edits_not_more r ns name (false_and (is_edits name.kind) (name.region == r) (ap is_edits store))));
    above = λ m has is_store region. elim (Contains-push_cases ns name m has) as (λ _. m.number < y.next_store) [
      | inl before ↦ (let low = old.above m before is_store region in omega (arith, low, step.next))
      | inr is ↦ (let k : name.number ≡ m.number = ap (λ (n : Name). n.number) is in omega (arith, k, step.next))
    ];
    next = elim (cases_lt x.next_store (name.number + 1)) as (λ _. IsNext r (ns ++ name ∷ []) y.next_store) [
      | inl higher ↦ inr (name, Contains-push ns name, store, of, omega (arith, higher, step.next))
      | inr lower ↦ (let same : y.next_store ≡ x.next_store = omega (arith, lower, step.next) in subst (λ (n : ℕ). IsNext r (ns ++ name ∷ []) n) (sym same) (next_on x.next_store old.next))
    ];
  }

  add_name : (x y : RegionFiles) → name.kind ≡ kinds.Edits → name.region ≡ r → AddsEdits name x y → IsDealt job r upto ns ss ks x → IsDealt job r upto (ns ++ name ∷ []) ss ks y
  add_name x y edits region step old = record {
    region = step.region ∙ old.region;
    stored = step.stored ∙ old.stored;
    unflushed = step.unflushed ∙ old.unflushed;
    flushed = step.flushed ∙ old.flushed;
    edits = step.edits ∙ ap (λ (l : List Name). l ++ name ∷ []) old.edits ∙ append_assoc (written_name job.entries.items job.name) (edits_of r ns) (name ∷ [])
        ∙ ap (λ (l : List Name). written_name job.entries.items job.name ++ l) (sym (edits_one_more r ns name (true_and (is_edits name.kind) (name.region == r) (ap is_edits edits) (eq-eqb name.region r region))));
    above = λ m has is_store of. elim (Contains-push_cases ns name m has) as (λ _. m.number < y.next_store) [
      | inl before ↦ (let low = old.above m before is_store of in omega (arith, low, step.next))
      | inr is ↦ absurd (cc (sym is_store ∙ ap (λ (n : Name). n.kind) (sym is) ∙ edits))
    ];
    next = subst (λ (n : ℕ). IsNext r (ns ++ name ∷ []) n) (sym step.next) (next_on x.next_store old.next);
  }

pub name_dealt : (jobs : List EditsJob) (flushed : List RegionFlushed) (ns : List Name) (ss : List FoundStore) (ks : List Entry) (old new : List RegionFiles) (name : Name) → IsGood name → DealsName name old new → AreDealt jobs flushed ns ss ks old → AreDealt jobs flushed (ns ++ name ∷ []) ss ks new
name_dealt jobs flushed ns ss ks old new name good deals are = go name.kind refl
  where
    Now : Type 0
    Now = AreDealt jobs flushed (ns ++ name ∷ []) ss ks new

    same : new ≡ old → is_edits name.kind ≡ false → name.kind ≢ kinds.Store → Now
    same is not none = subst (λ (l : List RegionFiles). AreDealt jobs flushed (ns ++ name ∷ []) ss ks l) (sym is) (record {
      long = are.long;
      each = λ k d j u lt. keep_name (get_or jobs k j) (k + 1) (get_or flushed (k + 1) u) ns ss ks name (get_or old k d) (false_and (is_edits name.kind) (name.region == (k + 1)) not) (λ store region. none store) (are.each k d j u lt);
      valid = are.valid;
    })

    go : (kind : NameKind) → name.kind ≡ kind → Now
    go kinds.Log is = same (deals.other (λ store. absurd (cc (sym is ∙ store))) (λ edits. absurd (cc (sym is ∙ edits)))) (ap is_edits is) (λ store. absurd (cc (sym is ∙ store)))
    go kinds.Old is = same (deals.other (λ store. absurd (cc (sym is ∙ store))) (λ edits. absurd (cc (sym is ∙ edits)))) (ap is_edits is) (λ store. absurd (cc (sym is ∙ store)))
    go kinds.Store is =
        let range = good.region (inl is) in
        let step = deals.store is in
        record {
          long = deals_long name.region (RaisesNext name.number) old new step are.long;
          each = λ k d j u lt. elim (deals_cases name.region (RaisesNext name.number) old new step range.0 range.1 are.long k d) as (λ _. IsDealt (get_or jobs k j) (k + 1) (get_or flushed (k + 1) u) (ns ++ name ∷ []) ss ks (get_or new k d)) [
            | inl (here, one) ↦ raise_name (get_or jobs k j) (k + 1) (get_or flushed (k + 1) u) ns ss ks name (get_or old k d) (get_or new k d) is (sym here) one (are.each k d j u lt)
            | inr (apart, kept) ↦ subst (λ (y : RegionFiles). IsDealt (get_or jobs k j) (k + 1) (get_or flushed (k + 1) u) (ns ++ name ∷ []) ss ks y) (sym kept)
                (keep_name (get_or jobs k j) (k + 1) (get_or flushed (k + 1) u) ns ss ks name (get_or old k d) (false_and (is_edits name.kind) (name.region == (k + 1)) (ap is_edits is)) (λ store region. apart (sym region)) (are.each k d j u lt))
          ];
          valid = are.valid;
        }
    go kinds.Edits is =
        let range = good.region (inr is) in
        let step = deals.edits is in
        record {
          long = deals_long name.region (AddsEdits name) old new step are.long;
          each = λ k d j u lt. elim (deals_cases name.region (AddsEdits name) old new step range.0 range.1 are.long k d) as (λ _. IsDealt (get_or jobs k j) (k + 1) (get_or flushed (k + 1) u) (ns ++ name ∷ []) ss ks (get_or new k d)) [
            | inl (here, one) ↦ add_name (get_or jobs k j) (k + 1) (get_or flushed (k + 1) u) ns ss ks name (get_or old k d) (get_or new k d) is (sym here) one (are.each k d j u lt)
            | inr (apart, kept) ↦ subst (λ (y : RegionFiles). IsDealt (get_or jobs k j) (k + 1) (get_or flushed (k + 1) u) (ns ++ name ∷ []) ss ks y) (sym kept)
                (keep_name (get_or jobs k j) (k + 1) (get_or flushed (k + 1) u) ns ss ks name (get_or old k d) (and_false (is_edits name.kind) (name.region == (k + 1)) (ne_eqb name.region (k + 1) (λ region. apart (sym region)))) (λ store region. apart (sym region)) (are.each k d j u lt))
          ];
          valid = are.valid;
        }

-- ---- a store

stores_more : (r : ℕ) (ss : List FoundStore) (y : FoundStore) → stores_of r (ss ++ y ∷ []) ≡ stores_of r ss ++ cond (y.name.region == r) (y ∷ []) []
stores_more r ss y = filter-append (λ (z : FoundStore). z.name.region == r) ss (y ∷ [])

abbrev cells_in : FoundStore → List NumberedCell
cells_in y = y.text.cells

cells_more : (ss : List FoundStore) (y : FoundStore) → cells_of (ss ++ y ∷ []) ≡ cells_of ss ++ y.text.cells
cells_more ss y = flat_map-append cells_in ss (y ∷ []) ∙ ap (λ (l : List NumberedCell). cells_of ss ++ l) (append-nil y.text.cells)

pub store_dealt : (jobs : List EditsJob) (flushed : List RegionFlushed) (ns : List Name) (ss : List FoundStore) (ks : List Entry) (old new : List RegionFiles) (s : FoundStore) → 1 ≤ s.name.region → s.name.region ≤ 64
    → Deals s.name.region (AddsStored s.text.cells) old new → AreDealt jobs flushed ns ss ks old → AreDealt jobs flushed ns (ss ++ s ∷ []) ks new
store_dealt jobs flushed ns ss ks old new s given low deals are = record {
  long = deals_long s.name.region (AddsStored s.text.cells) old new deals are.long;
  each = λ k d j u lt. elim (deals_cases s.name.region (AddsStored s.text.cells) old new deals given low are.long k d) as (λ _. IsDealt (get_or jobs k j) (k + 1) (get_or flushed (k + 1) u) ns (ss ++ s ∷ []) ks (get_or new k d)) [
    | inl (here, step) ↦ (
        let o = are.each k d j u lt in
        let more : stores_of (k + 1) (ss ++ s ∷ []) ≡ stores_of (k + 1) ss ++ s ∷ [] = stores_more (k + 1) ss s ∙ ap (λ (b : Bool). stores_of (k + 1) ss ++ cond b (s ∷ []) []) (eq-eqb s.name.region (k + 1) (sym here)) in
        record {
          region = step.region ∙ o.region;
          stored = step.stored ∙ ap (λ (l : List NumberedCell). l ++ s.text.cells) o.stored ∙ sym (ap cells_of more ∙ cells_more (stores_of (k + 1) ss) s);
          unflushed = step.unflushed ∙ o.unflushed;
          flushed = step.flushed ∙ o.flushed;
          edits = step.edits ∙ o.edits;
          above = λ m has store region. (let low_before = o.above m has store region in omega (arith, low_before, step.next));
          next = subst (λ (n : ℕ). IsNext (k + 1) ns n) (sym step.next) o.next;
        })
    | inr (apart, kept) ↦ (
        let o = are.each k d j u lt in
        let same : stores_of (k + 1) (ss ++ s ∷ []) ≡ stores_of (k + 1) ss = stores_more (k + 1) ss s ∙ ap (λ (b : Bool). stores_of (k + 1) ss ++ cond b (s ∷ []) []) (ne_eqb s.name.region (k + 1) (λ region. apart (sym region))) ∙ append-nil (stores_of (k + 1) ss) in
        subst (λ (y : RegionFiles). IsDealt (get_or jobs k j) (k + 1) (get_or flushed (k + 1) u) ns (ss ++ s ∷ []) ks y) (sym kept) (record {
          region = o.region;
          stored = o.stored ∙ ap cells_of (sym same);
          unflushed = o.unflushed;
          flushed = o.flushed;
          edits = o.edits;
          above = o.above;
          next = o.next;
        }))
  ];
  valid = are.valid;
}

-- ---- an entry

pub entry_dealt : (jobs : List EditsJob) (flushed : List RegionFlushed) (ns : List Name) (ss : List FoundStore) (ks : List Entry) (old new : List RegionFiles) (e : Entry) → 1 ≤ e.region → e.region ≤ 64 → IsEntry e
    → Deals e.region (AddsEntry e) old new → AreDealt jobs flushed ns ss ks old → AreDealt jobs flushed ns ss (ks ++ e ∷ []) new
entry_dealt jobs flushed ns ss ks old new e given low valid deals are = record {
  long = deals_long e.region (AddsEntry e) old new deals are.long;
  each = λ k d j u lt. elim (deals_cases e.region (AddsEntry e) old new deals given low are.long k d) as (λ _. IsDealt (get_or jobs k j) (k + 1) (get_or flushed (k + 1) u) ns ss (ks ++ e ∷ []) (get_or new k d)) [
    | inl (here, step) ↦ (
        let o = are.each k d j u lt in
        let own : List Entry = (get_or jobs k j).entries.items in
        let more : entries_of (k + 1) (ks ++ e ∷ []) ≡ entries_of (k + 1) ks ++ e ∷ [] = of_more (k + 1) ks e ∙ ap (λ (b : Bool). entries_of (k + 1) ks ++ cond b (e ∷ []) []) (eq-eqb e.region (k + 1) (sym here)) in
        record {
          region = step.region ∙ o.region;
          stored = step.stored ∙ o.stored;
          unflushed = step.unflushed ∙ ap (λ (l : List Entry). l ++ e ∷ []) o.unflushed ∙ append_assoc own (entries_of (k + 1) ks) (e ∷ []) ∙ ap (λ (l : List Entry). own ++ l) (sym more);
          flushed = step.flushed ∙ o.flushed;
          edits = step.edits ∙ o.edits;
          above = λ m has store region. (let low_before = o.above m has store region in omega (arith, low_before, step.next));
          next = subst (λ (n : ℕ). IsNext (k + 1) ns n) (sym step.next) o.next;
        })
    | inr (apart, kept) ↦ (
        let o = are.each k d j u lt in
        let own : List Entry = (get_or jobs k j).entries.items in
        let same : entries_of (k + 1) (ks ++ e ∷ []) ≡ entries_of (k + 1) ks = of_more (k + 1) ks e ∙ ap (λ (b : Bool). entries_of (k + 1) ks ++ cond b (e ∷ []) []) (ne_eqb e.region (k + 1) (λ region. apart (sym region))) ∙ append-nil (entries_of (k + 1) ks) in
        subst (λ (y : RegionFiles). IsDealt (get_or jobs k j) (k + 1) (get_or flushed (k + 1) u) ns ss (ks ++ e ∷ []) y) (sym kept) (record {
          region = o.region;
          stored = o.stored;
          unflushed = o.unflushed ∙ ap (λ (l : List Entry). own ++ l) (sym same);
          flushed = o.flushed;
          edits = o.edits;
          above = o.above;
          next = o.next;
        }))
  ];
  valid = λ d has. elim (Contains-push_cases ks e d has) as (λ _. IsEntry d) [
    | inl before ↦ are.valid d before
    | inr is ↦ subst IsEntry is valid
  ];
}

-- ---- the beginning

pub all_begun : (jobs : List EditsJob) (flushed : List RegionFlushed) (xs : List RegionFiles) (number : ℕ) → length jobs ≡ 64 → ((k : ℕ) (d : EditsJob) → k < 64 → (get_or jobs k d).name ≡ edits_name (k + 1) number) → AreBegun jobs flushed xs → AreDealt jobs flushed [] [] [] xs
all_begun jobs flushed xs number long named begun = record {
  long = begun.long ∙ long;
  each = λ k d j u lt. subst (λ (r : ℕ). IsDealt (get_or jobs k j) r (get_or flushed r u) [] [] [] (get_or xs k d)) (ap (λ (m : Name). m.region) (named k j lt)) (begun.each k d j u (omega (arith, lt, long)));
  valid = λ e has. absurd (none_in e has);
}

pub none_begun : (flushed : List RegionFlushed) (xs : List RegionFiles) → length xs ≡ 0 → AreBegun [] flushed xs
none_begun flushed xs none = record { long = none; each = λ k d j u lt. absurd (omega (arith, lt)) }

pub one_begun : (jobs : List EditsJob) (flushed : List RegionFlushed) (xs : List RegionFiles) (job : EditsJob) (x : RegionFiles) → AreBegun jobs flushed xs → ((u : RegionFlushed) → IsDealt job job.name.region (get_or flushed job.name.region u) [] [] [] x) → AreBegun (jobs ++ job ∷ []) flushed (xs ++ x ∷ [])
one_begun jobs flushed xs job x begun dealt = record {
  long = omega (arith, length-append jobs (job ∷ []), length-append xs (x ∷ []), begun.long);
  each = λ k d j u lt. elim (cases_lt k (length jobs)) as (λ _. IsBegunAt u (get_or (jobs ++ job ∷ []) k j) (get_or (xs ++ x ∷ []) k d)) [
    | inl early ↦ subst (λ (i : EditsJob). IsBegunAt u i (get_or (xs ++ x ∷ []) k d)) (sym (get_or_append_left jobs (job ∷ []) j k early))
        (subst (λ (y : RegionFiles). IsBegunAt u (get_or jobs k j) y) (sym (get_or_append_left xs (x ∷ []) d k (omega (arith, early, begun.long)))) (begun.each k d j u early))
    | inr late ↦ (
        let at : k ≡ length jobs = omega (arith, late, lt, length-append jobs (job ∷ [])) in
        let one : get_or (jobs ++ job ∷ []) k j ≡ job = ap (λ (i : ℕ). get_or (jobs ++ job ∷ []) i j) at ∙ get_or-append_seam jobs job [] j in
        let two : get_or (xs ++ x ∷ []) k d ≡ x = ap (λ (i : ℕ). get_or (xs ++ x ∷ []) i d) (at ∙ sym begun.long) ∙ get_or-append_seam xs x [] d in
        subst (λ (i : EditsJob). IsBegunAt u i (get_or (xs ++ x ∷ []) k d)) (sym one) (subst (λ (y : RegionFiles). IsBegunAt u job y) (sym two) (dealt u)))
  ];
}
  where
    IsBegunAt : RegionFlushed → EditsJob → RegionFiles → Type 0
    IsBegunAt u i y = IsDealt i i.name.region (get_or flushed i.name.region u) [] [] [] y

pub name_long : (name : Name) (old new : List RegionFiles) → DealsName name old new → length old ≡ 64 → length new ≡ 64
name_long name old new deals long = go name.kind refl
  where
    go : (kind : NameKind) → name.kind ≡ kind → length new ≡ 64
    go kinds.Log is = ap length (deals.other (λ store. absurd (cc (sym is ∙ store))) (λ edits. absurd (cc (sym is ∙ edits)))) ∙ long
    go kinds.Old is = ap length (deals.other (λ store. absurd (cc (sym is ∙ store))) (λ edits. absurd (cc (sym is ∙ edits)))) ∙ long
    go kinds.Store is = deals_long name.region (RaisesNext name.number) old new (deals.store is) long
    go kinds.Edits is = deals_long name.region (AddsEdits name) old new (deals.edits is) long

pub good_name : (names : List Name) (m : Name) → ¬ IsBadAmong names m → IsGood m
good_name names m good = record {
  low = elim (cases_lt (2 ^ 62) m.number) as (λ _. m.number ≤ 2 ^ 62) [ inl high ↦ absurd (good (inl high)) | inr low ↦ low ];
  region = λ kind. (
    elim (cases_eq m.region 0) as (λ _. 1 ≤ m.region) [ inl zero ↦ absurd (good (inr (inl (kind, inl zero)))) | inr more ↦ omega (arith, more) ],
    elim (cases_lt 64 m.region) as (λ _. m.region ≤ 64) [ inl high ↦ absurd (good (inr (inl (kind, inr high)))) | inr low ↦ low ],
  );
}
