-- What stands in a region's files, and what its replay makes of it.
use Rattle.std.proofs.Common.{◌≡◌, ◌≢◌, ◌⊎◌, inl, inr, ℕ, ◌+◌, ◌<◌, ◌≤◌, ◌^◌, List, [], ◌∷◌, ◌++◌, max, Contains, Some, refl, sym, ap, ◌∙◌, subst, arith}
use Rattle.std.specs.FinMap.{get, empty}
use Rattle.std.specs.List.{AllByRecursion}
use Rattle.std.proofs.lemmas.Bool.{cases_lt}
use Rattle.std.proofs.lemmas.List.{append-nil}
use Rattle.std.proofs.lemmas.List.Elements.{Contains-append_left, Contains-push, Contains-push_cases}
use Rattle.cell_model.specs.Cell.{Cell}
use Rattle.cell_model.specs.Order.{VersionKey, Payload, Content, NumberedCell}
use Rattle.cell_model.specs.Merge.{at_number, put_numbered}
use Rattle.log_model.specs.declared.name.Name.{Name}
use Rattle.log_model.specs.declared.name.NameKind.TheVariants as kinds
use Rattle.log_model.specs.Entry.{Entry}
use Rattle.log_model.specs.Files.{Files, content, IsLogged, IsPresent}
use Rattle.log_model.specs.StoreText.{Store}
use Rattle.log_model.specs.Recovered.{IsFor, IsCounting, FlushesTo, IsFlushed, IsSeen, IsLast, IsRecovered, IsContent}
use Rattle.region_model.specs.Journal.{Base}
use Rattle.disk_images.specs.Crash.{DiskView}
use Rattle.disk_images.specs.Calls.{IsTrueDisk}
use Rattle.recovery_laws.specs.Kept.{IsNotReplaced}
use Rattle.recovery_laws.specs.Laws.{IsFlushedEntry}
use Rattle.recovery_laws.specs.OpeningSteps.{IsEdited}
use Rattle.recovery_laws.proofs.Names.{name_cases}
use Rattle.recovery_laws.proofs.Numbers.{logged_given, logged_family}
use Rattle.region_replay.specs.declared.found.RegionFiles.{RegionFiles}
use Rattle.wal_split.specs.Flushed.{flushed_of}
use Rattle.wal_split.proofs.Above.{unflushed_cases}
use Rattle.region_replay.specs.Bases.{cells_above, entries_cells}
use Rattle.region_replay.specs.Cuts.{IsUnflushedCut, EditsFlushed, EditsUpTo}
use Rattle.wal_split.specs.Held.{IsHeld}
use Rattle.region_replay.specs.Names.{store_name, IsElsewhere}
use Rattle.region_replay.specs.Ready.{IsOf, IsWithin}
use Rattle.region_replay.specs.Regions.{IsTop, IsInOrder, IsFound}
use Rattle.region_replay.proofs.Joining.{still_flushes}
use Rattle.region_replay.proofs.Showing.{alike_between}
use Rattle.region_replay.proofs.Sorting.{none_in, is_first, is_later, got_has, cells_unflushed, unflushed_cells, one_sort, first_or_later}

-- ---- cells

pub all_append : (P : NumberedCell → Type 0) (xs ys : List NumberedCell) → AllByRecursion P xs → AllByRecursion P ys → AllByRecursion P (xs ++ ys)
all_append P [] ys a b = b
all_append P (x ∷ xs) ys a b = (a.0, all_append P xs ys a.1 b)

at_within : (P : ℕ → Type 0) (n : ℕ) (cs : List Cell) → P n → AllByRecursion (λ x. P x.0) (at_number n cs)
at_within P n [] p = tt
at_within P n (c ∷ cs) p = (p, at_within P n cs p)

-- the cells of entries have their sequence ids
pub entries_within : (P : ℕ → Type 0) (flushed : List ℕ → ℕ) (es : List Entry) → ((e : Entry) → Contains es e → P e.number) → AllByRecursion (λ x. P x.0) (entries_cells flushed es)
entries_within P flushed [] each = tt
entries_within P flushed (e ∷ es) each =
    all_append (λ (x : NumberedCell). P x.0) (at_number e.number (cells_above flushed e.number e.batch.cells)) (entries_cells flushed es)
    (at_within P e.number (cells_above flushed e.number e.batch.cells) (each e (is_first e es))) (entries_within P flushed es (λ d has. each d (is_later e es d has)))

each_in : (P : NumberedCell → Type 0) (xs : List NumberedCell) (x : NumberedCell) → AllByRecursion P xs → Contains xs x → P x
each_in P [] x each is = absurd (none_in x is)
each_in P (y ∷ ys) x each is = elim (first_or_later y ys x is) as (λ _. P x) [ inl here ↦ subst P here each.0 | inr later ↦ each_in P ys x each.1 later ]

pub weaker_all : (P Q : NumberedCell → Type 0) (xs : List NumberedCell) → ((x : NumberedCell) → P x → Q x) → AllByRecursion P xs → AllByRecursion Q xs
weaker_all P Q [] on each = tt
weaker_all P Q (x ∷ xs) on each = (on x each.0, weaker_all P Q xs on each.1)

-- a content of cells up to a sequence id
pub content_low : (xs : List NumberedCell) (n : ℕ) → AllByRecursion (λ x. x.0 ≤ n) xs → (v : VersionKey) (p : Payload) → get (put_numbered empty xs) v ≡ Some p → v.number ≤ n
content_low xs n each v p is =
    let h = got_has xs v p is in
    subst (λ (w : VersionKey). w.number ≤ n) h.2 (each_in (λ (x : NumberedCell). x.0 ≤ n) xs h.0 each h.1)

-- ---- what holds on any disk

-- the cells of entries that are above what is flushed of their families
abbrev pub cells_of_found : RegionFiles → List NumberedCell
cells_of_found x = entries_cells (flushed_of x.flushed) x.unflushed.items

module _ {told : Type 0} (x : RegionFiles) (order : IsInOrder told x) (to : ℕ) (top : IsTop x.unflushed.items x.flushed.last to) where
  pub to_low : to < 2 ^ 48
  to_low = elim top.reached as (λ _. to < 2 ^ 48) [
    | inl (e, has, is) ↦ (let low = order.low e has in omega (arith, low, is))
    | inr is ↦ omega (arith, order.last, is)
  ]

  pub whole_low : x.flushed.whole ≤ to
  whole_low = omega (arith, order.whole, top.low)

  pub base_low : (v : VersionKey) (p : Payload) → get (put_numbered empty (x.stored ++ cells_of_found x)) v ≡ Some p → v.number ≤ to
  base_low = content_low (x.stored ++ cells_of_found x) to
      (all_append (λ (y : NumberedCell). y.0 ≤ to) x.stored (cells_of_found x)
      (weaker_all (λ (y : NumberedCell). y.0 ≤ x.flushed.last) (λ (y : NumberedCell). y.0 ≤ to) x.stored (λ y low. omega (arith, low, top.low)) order.stored)
      (entries_within (λ n. n ≤ to) (flushed_of x.flushed) x.unflushed.items top.bound))

  pub within_of : (next : ℕ) (b : Base) → 1 ≤ next → next ≤ 2 ^ 63 + 1 → b.content ≡ put_numbered empty (x.stored ++ cells_of_found x) → b.last ≡ to → IsWithin (record { base = b; flushed = to; next_store = next })
  within_of next b given high is last = record {
    last = omega (arith, last, to_low);
    upto = λ v p has. (let low = base_low v p (ap (λ (c : Content). get c v) (sym is) ∙ has) in omega (arith, low, last));
    flushed = sym last;
    store_given = given;
    store = high;
  }

  pub cut_within : AllByRecursion (λ y. (x.flushed.whole + 1 ≤ y.0) × (y.0 ≤ to)) (cells_of_found x)
  cut_within = entries_within (λ n. (x.flushed.whole + 1 ≤ n) × (n ≤ to)) (flushed_of x.flushed) x.unflushed.items (λ e has. (let above = order.above e has in omega (arith, above), top.bound e has))

-- where the whole region is flushed up to its last sequence id no entry is unflushed
pub none_over : {told : Type 0} (x : RegionFiles) → IsInOrder told x → IsTop x.unflushed.items x.flushed.last x.flushed.whole → x.unflushed.items ≡ []
none_over x order top = go x.unflushed.items (λ e has. (let above = order.above e has in let low = top.bound e has in omega (arith, above, low)))
  where
    go : (es : List Entry) → ((e : Entry) → Contains es e → ⊥) → es ≡ []
    go [] none = refl
    go (e ∷ es) none = absurd (none e (is_first e es))

-- a name of no store and no edits file of the region is another one than those
module _ {told : Type 0} (x : RegionFiles) (order : IsInOrder told x) (m : Name) (other : IsElsewhere x.region m) where
  pub no_store : m ≢ store_name x.region x.next_store
  no_store is = other (inl (ap (λ (k : Name). k.kind) is)) (ap (λ (k : Name). k.region) is)

  pub no_edits : (n : Name) → Contains x.edits.items n → m ≢ n
  no_edits n has is = other (inr (ap (λ (k : Name). k.kind) is ∙ order.edits.kind n has)) (ap (λ (k : Name). k.region) is ∙ order.of n has)

-- ---- what holds of the files

module _ (files : Files) {told : Type 0} (x : RegionFiles) (order : IsInOrder told x) (found : IsFound files x) where
  pub logged_cases : (e : Entry) → IsLogged files e → e.region ≡ x.region → Contains x.unflushed.items e ⊎ IsFlushedEntry files e
  logged_cases e logged region = elim (unflushed_cases files e (flushed_of x.flushed) (λ f. subst (λ (r : ℕ). IsFlushed files r f (flushed_of x.flushed f)) (sym region) (found.flushed f)) (logged_given files e logged)) as (λ _. Contains x.unflushed.items e ⊎ IsFlushedEntry files e) [
    | inl unflushed ↦ inl (found.unflushed.all e logged region unflushed)
    | inr low ↦ inr low
  ]

  pub base_content : IsContent (IsRecovered files x.region) (put_numbered empty (x.stored ++ cells_of_found x))
  base_content = subst (λ (cs : List NumberedCell). IsContent (IsRecovered files x.region) (put_numbered empty (cs ++ cells_of_found x))) (sym found.cells) (one_sort files x.region (flushed_of x.flushed) found.stores x.unflushed.items found.flushed found.are_stores found.unflushed)

  pub edits_flushed : x.unflushed.items ≡ [] → EditsFlushed files x.edits.items
  edits_flushed none m has =
      let t = found.texts m has in
      (t.0, t.1, t.2, λ e member. flushed e (record { name = m; entries = t.0; file = record { kind = inr (order.edits.kind m has); bytes = t.2.bytes; there = t.2.there; ended = t.1; text = t.2.text }; member = member }) (t.3 e member))
    where
      flushed : (e : Entry) → IsLogged files e → e.region ≡ x.region → IsFlushedEntry files e
      flushed e logged region = elim (logged_cases e logged region) as (λ _. IsFlushedEntry files e) [
        | inl in_it ↦ absurd (none_in e (subst (λ (l : List Entry). Contains l e) none in_it))
        | inr low ↦ low
      ]

  -- an entry that is flushed is no higher than what the stores reach
  flushed_reached : (e : Entry) → IsLogged files e → e.region ≡ x.region → IsFlushedEntry files e → e.number ≤ x.flushed.last
  flushed_reached e logged region flushed =
      let some = logged_family files e logged in
      let h = flushed some.0 some.1 in
      let g : FlushesTo files x.region some.0 h.0 = subst (λ (r : ℕ). FlushesTo files r some.0 h.0) region h.1 in
      let low = found.last.bound h.0 (g.0, g.1, g.2, g.4) in
      omega (arith, low, h.2)

  pub not_replaced : IsNotReplaced files (store_name x.region x.next_store)
  not_replaced other t file scope = (let low = found.next other file.kind file.of (λ gone. absurd (cc (sym gone ∙ file.there))) in omega (arith, low))

  module _ (to : ℕ) (top : IsTop x.unflushed.items x.flushed.last to) where
    logged_low : (e : Entry) → IsLogged files e → e.region ≡ x.region → e.number ≤ to
    logged_low e logged region = elim (logged_cases e logged region) as (λ _. e.number ≤ to) [
      | inl in_it ↦ top.bound e in_it
      | inr flushed ↦ (let low = flushed_reached e logged region flushed in omega (arith, low, top.low))
    ]

    pub is_last : IsLast files x.region to
    is_last = record {
      reached = elim top.reached as (λ _. IsSeen files x.region to ⊎ (to ≡ 0)) [
        | inl (e, has, is) ↦ (let u = found.unflushed.each e has in inl (inr (e, u.0, u.1, is)))
        | inr is ↦ elim found.last.reached as (λ _. IsSeen files x.region to ⊎ (to ≡ 0)) [
          | inl (name, s, counts, same) ↦ inl (inl (name, s, counts, same ∙ sym is))
          | inr zero ↦ inr (is ∙ zero)
        ]
      ];
      bound = λ m seen. elim seen as (λ _. m ≤ to) [
        | inl (name, s, counts, is) ↦ (let low = found.last.bound m (name, s, counts, is) in omega (arith, low, top.low))
        | inr (e, logged, region, is) ↦ (let low = logged_low e logged region in omega (arith, low, is))
      ];
    }

    pub edits_up : EditsUpTo files x.region to x.edits.items
    edits_up m has =
        let t = found.texts m has in
        (t.0, t.1, t.2, λ e member. (t.3 e member, logged_low e (record { name = m; entries = t.0; file = record { kind = inr (order.edits.kind m has); bytes = t.2.bytes; there = t.2.there; ended = t.1; text = t.2.text }; member = member }) (t.3 e member)))

    pub is_cut : x.flushed.whole < to → IsUnflushedCut files (store_name x.region x.next_store) to (cells_of_found x)
    is_cut more = record {
      puts = λ v p. (cells_unflushed files x.region (flushed_of x.flushed) x.unflushed.items found.flushed found.unflushed v p, unflushed_cells files x.region (flushed_of x.flushed) x.unflushed.items found.flushed found.unflushed v p);
      reached = elim top.reached as (λ _. Edited ⊎ Reached) [
        | inl (e, has, is) ↦ (let ed = found.edited e has in inl (record { name = ed.name; entries = ed.entries; file = ed.file; kind = ed.kind; last = e; member = ed.member; of = (found.unflushed.each e has).1; reached = omega (arith, is) }))
        | inr is ↦ elim found.last.reached as (λ _. Edited ⊎ Reached) [
          | inl (name, s, counts, same) ↦ inr (name, s, counts, omega (arith, same, is))
          | inr zero ↦ absurd (omega (arith, is, zero, more))
        ]
      ];
      stands = not_replaced;
    }
      where
        Edited : Type 0
        Edited = IsEdited files x.region to

        Reached : Type 0
        Reached = (m : Name) × (t : Store) × IsCounting files x.region m t × (to ≤ t.to)

-- what the region is opened with, once its files are replayed
pub replayed_of : (base : Files) (u w : DiskView) → IsTrueDisk u → IsTrueDisk w → IsHeld base u → IsHeld base w → {told : Type 0} (x : RegionFiles) (order : IsInOrder told x) (found : IsFound u.files x) (to next : ℕ) → IsTop x.unflushed.items x.flushed.last to
    → ((f : List ℕ) → FlushesTo w.files x.region f to) ⊎ (to ≡ 0) → ((m : Name) → m.kind ≡ kinds.Store → m.region ≡ x.region → IsPresent w.files m → m.number < next)
    → ((n : ℕ) → ((m : Name) → m.kind ≡ kinds.Store → m.region ≡ x.region → IsPresent w.files m → m.number ≤ n) → next ≤ n + 1 + to)
    → (b : Base) → b.content ≡ put_numbered empty (x.stored ++ cells_of_found x) → b.last ≡ to → IsOf u.files w.files x.region (record { base = b; flushed = to; next_store = next })
replayed_of base u w true_u true_w held_u held_w x order found to next top flushed below few b is last =
    let now : IsLast u.files x.region to = is_last u.files x order found to top in
    let then : IsLast w.files x.region to = ((alike_between base u.files w.files (held_u.alike u.files true_u.reads) (held_w.alike w.files true_w.reads) x.region).last to).0 now in
    record {
      content = subst (λ (c : Content). IsContent (IsRecovered u.files x.region) c) (sym is) (base_content u.files x order found);
      last = subst (λ (n : ℕ). IsLast u.files x.region n) (sym last) now;
      flushed = λ f. record {
        reached = elim flushed as (λ _. FlushesTo w.files x.region f to ⊎ (to ≡ 0)) [ inl all ↦ inl (all f) | inr zero ↦ inr zero ];
        bound = λ m h. then.bound m (inl (h.0, h.1, h.2, h.4));
      };
      next = below;
      few = few;
    }

-- of a region's stores one alone is new
pub next_below : (u w : DiskView) {told : Type 0} (x : RegionFiles) (order : IsInOrder told x) (found : IsFound u.files x)
    → ((m : Name) → m ≢ store_name x.region x.next_store → ((n : Name) → Contains x.edits.items n → m ≢ n) → content w.files m ≡ content u.files m)
    → (m : Name) → m.kind ≡ kinds.Store → m.region ≡ x.region → IsPresent w.files m → m.number < x.next_store + 1
next_below u w x order found others m store region here = elim (name_cases m (store_name x.region x.next_store)) as (λ _. m.number < x.next_store + 1) [
  | inl is ↦ (let number : m.number ≡ x.next_store = ap (λ (k : Name). k.number) is in omega (arith, number))
  | inr other ↦
      let same = others m other (λ n has is. absurd (cc (sym store ∙ ap (λ (k : Name). k.kind) is ∙ order.edits.kind n has))) in
      let low = found.next m store region (λ none. here (same ∙ none)) in
      omega (arith, low)
]

-- and so the number of the next one is above it by no more than one
pub next_few : (u w : DiskView) {told : Type 0} (x : RegionFiles) (order : IsInOrder told x) (found : IsFound u.files x)
    → ((m : Name) → m ≢ store_name x.region x.next_store → ((n : Name) → Contains x.edits.items n → m ≢ n) → content w.files m ≡ content u.files m)
    → (n : ℕ) → ((m : Name) → m.kind ≡ kinds.Store → m.region ≡ x.region → IsPresent w.files m → m.number ≤ n) → x.next_store ≤ n + 1
next_few u w x order found others n bound = found.few n (λ m store region here. bound m store region (λ gone. (
    let low = found.next m store region here in
    let other : m ≢ store_name x.region x.next_store = λ is. (let number : m.number ≡ x.next_store = ap (λ (k : Name). k.number) is in omega (arith, low, number)) in
    let same = others m other (λ k has is. absurd (cc (sym store ∙ ap (λ (i : Name). i.kind) is ∙ order.edits.kind k has))) in
    here (sym same ∙ gone))))

-- ---- the last sequence id

pub none_top : (low : ℕ) → IsTop [] low low
none_top low = record { reached = inr refl; low = omega arith; bound = λ e has. absurd (none_in e has) }

-- one entry more
pub last_more : (es : List Entry) (low n : ℕ) (e : Entry) → IsTop es low n → IsTop (es ++ e ∷ []) low (max n e.number)
last_more es low n e top = record {
  reached = elim (cases_lt n e.number) as (λ _. ((d : Entry) × Contains (es ++ e ∷ []) d × (d.number ≡ max n e.number)) ⊎ (max n e.number ≡ low)) [
    | inl higher ↦ inl (e, Contains-push es e, omega (arith, higher))
    | inr lower ↦ (let is : n ≡ max n e.number = omega (arith, lower) in elim top.reached as (λ _. ((d : Entry) × Contains (es ++ e ∷ []) d × (d.number ≡ max n e.number)) ⊎ (max n e.number ≡ low)) [
      | inl (d, has, same) ↦ inl (d, Contains-append_left es (e ∷ []) d has, same ∙ is)
      | inr same ↦ inr (sym is ∙ same)
    ])
  ];
  low = omega (arith, top.low);
  bound = λ d has. elim (Contains-push_cases es e d has) as (λ _. d.number ≤ max n e.number) [
    | inl before ↦ (let under = top.bound d before in omega (arith, under))
    | inr same ↦ (let k : e.number ≡ d.number = ap (λ (y : Entry). y.number) same in omega (arith, k))
  ];
}

-- where no entry is unflushed the stores are all there is
pub no_cells : (x : RegionFiles) (c : Content) → x.unflushed.items ≡ [] → c ≡ put_numbered empty x.stored → c ≡ put_numbered empty (x.stored ++ cells_of_found x)
no_cells x c none is = is ∙ ap (put_numbered empty) (sym (append-nil x.stored)) ∙ ap (λ (cs : List NumberedCell). put_numbered empty (x.stored ++ cs)) (sym (ap (entries_cells (flushed_of x.flushed)) none))

pub dropped_of : (base : Files) (u w : DiskView) → IsTrueDisk u → IsTrueDisk w → IsHeld base u → IsHeld base w → {told : Type 0} (x : RegionFiles) (order : IsInOrder told x) (found : IsFound u.files x) → IsTop x.unflushed.items x.flushed.last x.flushed.whole
    → ((m : Name) → ((n : Name) → Contains x.edits.items n → m ≢ n) → content w.files m ≡ content u.files m)
    → (b : Base) → b.content ≡ put_numbered empty (x.stored ++ cells_of_found x) → b.last ≡ x.flushed.whole → IsOf u.files w.files x.region (record { base = b; flushed = x.flushed.whole; next_store = x.next_store })
dropped_of base u w true_u true_w held_u held_w x order found top others b is last =
    replayed_of base u w true_u true_w held_u held_w x order found x.flushed.whole x.next_store top
    (elim found.whole.reached as (λ _. ((f : List ℕ) → FlushesTo w.files x.region f x.flushed.whole) ⊎ (x.flushed.whole ≡ 0)) [
      | inl flushes ↦ inl (λ f. still_flushes u w x.edits.items x.region x.flushed.whole order.edits others f (for_all u.files x.region x.flushed.whole flushes f))
      | inr zero ↦ inr zero
    ])
    (λ m store region here. found.next m store region (λ gone. here (same_store m store ∙ gone)))
    (λ n bound. (let low = found.few n (λ m store region here. bound m store region (λ gone. here (sym (same_store m store) ∙ gone))) in omega (arith, low)))
    b is last
  where
    same_store : (m : Name) → m.kind ≡ kinds.Store → content w.files m ≡ content u.files m
    same_store m store = others m (λ n has is. absurd (cc (sym store ∙ ap (λ (k : Name). k.kind) is ∙ order.edits.kind n has)))

    -- a store for the whole region is for each family
    for_all : (files : Files) (r n : ℕ) → FlushesTo files r [] n → (f : List ℕ) → FlushesTo files r f n
    for_all files r n h f = (h.0, h.1, h.2, elim h.3 as (λ _. IsFor h.1.family f) [ inl none ↦ inl none | inr none ↦ inl none ], h.4)
