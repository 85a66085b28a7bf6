-- The files of one region, read alone.
use Rattle.std.proofs.Common.{◌≡◌, ◌≢◌, ◌⊎◌, inl, inr, ℕ, Bool, true, false, ◌<◌, ◌≤◌, ◌==◌, ◌&&◌, List, take, length, get_or, Contains, refl, sym, ap, ◌∙◌, subst, arith}
use Rattle.std.specs.Prelude.{AllPairs}
use Rattle.std.specs.FinMap.{keys}
use Rattle.std.specs.declared.cmp.Ordering.TheVariants.{Less}
use Rattle.std.specs.Ordering.{ordering_reverse}
use Rattle.std.proofs.lemmas.Bool.{cases_lt, eq-eqb, eqb-true}
use Rattle.std.proofs.lemmas.Cmp.{tied_itself}
use Rattle.std.proofs.lemmas.List.{get_or-take, length-take, get_or_default}
use Rattle.std.proofs.lemmas.List.Kept.{AllPairs-filter}
use Rattle.std.proofs.lemmas.List.Elements.{Contains-get_or, All-from_recursion, All-contains}
use Rattle.log_model.specs.declared.name.Name.{Name}
use Rattle.log_model.specs.declared.name.NameKind.{NameKind}
use Rattle.log_model.specs.declared.name.NameKind.TheVariants as kinds
use Rattle.log_model.specs.declared.damage.Damage.{Damage}
use Rattle.log_model.specs.declared.damage.Damage.TheVariants as damages
use Rattle.log_model.specs.Entry.{Entry}
use Rattle.log_model.specs.LogText.{IsEntryOf, in_version}
use Rattle.log_model.proofs.TextLaws.{HasVersion, with_version}
use Rattle.log_model.specs.Files.{Files, HoldsEntries, IsLogFile, IsPresent, Reads, content, key_of, name_cmp}
use Rattle.log_model.specs.Damage.{HasDamage, IsFirstDamageOf}
use Rattle.log_model.specs.Damage.HasDamage.{Logged, Stored}
use Rattle.log_model.proofs.NameLaws.{name_cmp_total}
use Rattle.disk_images.proofs.Settled.{among_names, there_of, present_cases}
use Rattle.found_files.specs.declared.found.FoundEntry.{FoundEntry}
use Rattle.found_files.specs.declared.found.FoundStore.{FoundStore}
use Rattle.found_files.specs.Found.{AreContents, place_in}
use Rattle.found_files.specs.OfRegion.{IsOfRegion, IsEditsOf, has_region, names_of, AreNamesOf, IsWholeIn, IsFirstDisagreementIn, IsDamageIn, IsFirstHurt}
use Rattle.found_files.specs.Refusal.{IsDamageAt}
use Rattle.found_files.specs.Sorted.{AreOrdered, AllAgree, IsFirstPair}
use Rattle.found_files.proofs.Disagreeing.{some_found, agree_among, told_as, here, in_f, in_s, none_lower}
use Rattle.found_files.proofs.Files.{one_list}
use Rattle.found_files.proofs.Filters.{in_filter, to_filter}
use Rattle.found_files.proofs.NameOrder.{names_rise}
use Rattle.found_files.proofs.Placing.{none_in}
use Rattle.found_files.proofs.Whole.{undamaged}

-- ---- names

kind_of : (k : NameKind) → has_region k ≡ true → (k ≡ kinds.Store) ⊎ (k ≡ kinds.Edits)
kind_of kinds.Log is = absurd (cc is)
kind_of kinds.Old is = absurd (cc is)
kind_of kinds.Store is = inl refl
kind_of kinds.Edits is = inr refl

of_kind : (k : NameKind) → (k ≡ kinds.Store) ⊎ (k ≡ kinds.Edits) → has_region k ≡ true
of_kind k (inl store) = ap has_region store
of_kind k (inr edits) = ap has_region edits

both_true : (a b : Bool) → (a && b) ≡ true → (a ≡ true) × (b ≡ true)
both_true true b is = (refl, is)
both_true false b is = absurd (cc is)

true_and : (a b : Bool) → a ≡ true → b ≡ true → (a && b) ≡ true
true_and true b is this = this
true_and false b is this = absurd (cc is)

abbrev is_own : ℕ → Name → Bool
is_own r m = has_region m.kind && (m.region == r)

pub own_name : (r : ℕ) (names : List Name) (m : Name) → Contains (names_of r names) m → Contains names m × IsOfRegion r m
own_name r names m has =
    let f = in_filter (is_own r) names m has in
    let b = both_true (has_region m.kind) (m.region == r) f.1 in
    (f.0, (eqb-true m.region r b.1, kind_of m.kind b.0))

pub are_names_of : (told : Type 0) (files : Files) (r : ℕ) (all : List Name) → (told → all ≡ keys files) → AreNamesOf told files r (names_of r all)
are_names_of told files r all is = record {
  each = λ m has. (own_name r all m has).1;
  there = λ is_told m has. there_of files m (subst (λ (l : List Name). Contains l m) (is is_told) (own_name r all m has).0);
  all = λ is_told m of present. to_filter (is_own r) all m (subst (λ (l : List Name). Contains l m) (sym (is is_told)) (among_names files m present))
      (true_and (has_region m.kind) (m.region == r) (of_kind m.kind of.1) (eq-eqb m.region r of.0));
  rise = λ is_told. AllPairs-filter (λ a b. name_cmp a b ≡ Less) (is_own r) all (subst (λ (l : List Name). AllPairs (λ a b. name_cmp a b ≡ Less) l) (sym (is is_told)) (names_rise files));
}

-- a file that is there reads as some bytes
pub reads_there : (files g : Files) → g ≡ files → (m : Name) → IsPresent files m → ∥ ((c : List ℕ) × Reads g m c) ∥₁
reads_there files g same m present = elim (present_cases files m) as (λ _. ∥ ((c : List ℕ) × Reads g m c) ∥₁) [
  | inl none ↦ absurd (present none)
  | inr some ↦ ∣ (some.0, ap (λ (f : Files). content f m) same ∙ some.1) ∣₁
]

-- ---- the first that is damaged

pub before_this : (names : List Name) (i : ℕ) (d : Name) → AllPairs (λ a b. name_cmp a b ≡ Less) names → i < length names → (m : Name) → Contains (take i names) m → name_cmp m (get_or names i d) ≡ Less
before_this names i d rise lt m has =
    let early : has.0 < i = omega (arith, has.1, length-take i names) in
    let here : get_or names has.0 d ≡ m = get_or_default names has.0 d m (omega (arith, early, lt)) ∙ sym (get_or-take i names has.0 m early) ∙ has.2 in
    subst (λ (n : Name). name_cmp n (get_or names i d) ≡ Less) here (rise has.0 i d early lt)

pub first_hurt : (told : Type 0) (is_told : told) (files : Files) (names : List Name) (i : ℕ) (d : Name) (es : List FoundEntry) (ss : List FoundStore) → AllPairs (λ a b. name_cmp a b ≡ Less) names → i < length names
    → AreContents told files (take i names) es ss → (damage : Damage) → IsDamageAt files (get_or names i d) damage → IsFirstHurt files names damage
first_hurt told is_told files names i d es ss rise lt read damage (at, is, hurt, unsound) = record {
  name = this;
  at = at;
  is = is;
  among = Contains-get_or names i d lt;
  here = hurt;
  first = lower;
}
  where
    this : Name
    this = get_or names i d

    lower : (other : Name) (place : ℕ) → Contains names other → HasDamage files other place → name_cmp other this ≢ Less
    lower other place has other_hurt less = elim (cases_lt has.0 i) as (λ _. ⊥) [
      | inl early ↦ undamaged told files (take i names) es ss is_told read other place (has.0, omega (arith, early, has.1, length-take i names), get_or-take i names has.0 other early ∙ has.2) other_hurt
      | inr late ↦ elim (cases_lt i has.0) as (λ _. ⊥) [
        | inl behind ↦
            let rising : name_cmp this (get_or names has.0 d) ≡ Less = rise i has.0 d behind has.1 in
            let named : get_or names has.0 d ≡ other = get_or_default names has.0 d other has.1 ∙ has.2 in
            let up : name_cmp this other ≡ Less = ap (λ (n : Name). name_cmp this n) (sym named) ∙ rising in
            absurd (cc (sym less ∙ name_cmp_total.antisymm other this ∙ ap ordering_reverse up))
        | inr not_behind ↦
            let at_same : has.0 ≡ i = omega (arith, late, not_behind) in
            let named : this ≡ other = get_or_default names i d other lt ∙ ap (λ (k : ℕ). get_or names k other) (sym at_same) ∙ has.2 in
            absurd (cc (sym less ∙ ap (λ (n : Name). name_cmp n this) (sym named) ∙ tied_itself name_cmp_total this))
      ]
    ]

hurt_present : (files : Files) (m : Name) (at : ℕ) → HasDamage files m at → IsPresent files m
hurt_present files m at (Logged bytes is kind damaged) = λ none. absurd (cc (sym none ∙ is))
hurt_present files m at (Stored bytes is kind damaged) = λ none. absurd (cc (sym none ∙ is))

-- ---- an entry of an edits file of a region is of that region

pub entry_region : (files : Files) (m : Name) (l : List Entry) (e : Entry) → IsLogFile files m l → Contains l e → 1 ≤ m.region → e.region ≡ m.region
entry_region files m l e file member given = go (with_version (key_of m) file.bytes l file.ended file.text)
  where
    go : HasVersion (key_of m) file.bytes l file.ended → e.region ≡ m.region
    go (v, known, inl short) = absurd (none_in e (subst (λ (k : List Entry). Contains k e) short.1 member))
    go (v, known, inr (rest, begins, ends)) = (All-contains (IsEntryOf (in_version v (key_of m))) l e (All-from_recursion (IsEntryOf (in_version v (key_of m))) l begins.each) member).region (λ zero. omega (arith, given, zero))

edits_only : (r : ℕ) (m : Name) → IsOfRegion r m → HoldsEntries m.kind → IsEditsOf r m
edits_only r m of holds = (
  of.0,
  elim holds as (λ _. m.kind ≡ kinds.Edits) [
    | inr edits ↦ edits
    | inl log ↦ elim of.1 as (λ _. m.kind ≡ kinds.Edits) [ inl store ↦ absurd (cc (sym store ∙ log)) | inr edits ↦ edits ]
  ],
)

-- ---- what is told

module _ (told : Type 0) (is_told : told) (files : Files) (r : ℕ) (given : 1 ≤ r) (names : List Name) (are : AreNamesOf told files r names) where
  pub hurt_told : (damage : Damage) → IsFirstHurt files names damage → IsDamageIn files r damage
  hurt_told damage f = subst (λ (d : Damage). IsDamageIn files r d) (sym f.is) first
    where
      first : IsFirstDamageOf files r f.name f.at
      first = (let of = are.each f.name f.among in record {
        of = of.0;
        kind = of.1;
        here = f.here;
        first = λ other place region kind hurt. f.first other place (are.all is_told other (region, kind) (hurt_present files other place hurt)) hurt;
      })

  module _ (es : List FoundEntry) (ss : List FoundStore) (read : AreContents told files names es ss) where
    whole : IsWholeIn files r
    whole m at of hurt = undamaged told files names es ss is_told read m at (are.all is_told m of (hurt_present files m at hurt)) hurt

    among : (m : Name) (l : List Entry) (e : Entry) → IsEditsOf r m → IsLogFile files m l → Contains l e → Contains es (place_in m e)
    among m l e of file member =
        let k = read.logs is_told m (are.all is_told m (of.0, inr of.1) (λ none. absurd (cc (sym none ∙ file.there)))) file.kind in
        k.2 e (subst (λ (j : List Entry). Contains j e) (one_list files m l k.0 file k.1) member)

    pub none_told : AllAgree es → (damage : Damage) → ¬ IsDamageIn files r damage
    none_told agree (damages.Bytes name at) hurt = whole name at (hurt.of, hurt.kind) hurt.here
    none_told agree (damages.Two first second region number) hurt =
        let h = hurt.here in
        h.differ (agree_among (IsEditsOf r) files es among agree h.d h.e
        (record { name = first; entries = h.ds; file = h.in_first.0; member = h.in_first.1 })
        (record { name = second; entries = h.es; file = h.in_second.0; member = h.in_second.1 })
        hurt.in_first hurt.in_second (h.regions.0 ∙ sym h.regions.1) (h.numbers.0 ∙ sym h.numbers.1))

    pub two_told : AreOrdered es → (damage : Damage) → IsFirstPair es damage → IsDamageIn files r damage
    two_told ordered damage pair = subst (λ (d : Damage). IsDamageIn files r d) (sym (pair.damage_is some_found)) first
      where
        of_own : (x : FoundEntry) → Contains es x → IsEditsOf r x.name
        of_own x has = edits_only r x.name (are.each x.name (read.among x has)) (read.hold x has)

        a : FoundEntry
        a = get_or es pair.first some_found

        b : FoundEntry
        b = get_or es pair.at some_found

        in_a : Contains es a
        in_a = in_f (IsEditsOf r) files es among (read.from_logs is_told) ordered damage pair

        in_b : Contains es b
        in_b = in_s (IsEditsOf r) files es among (read.from_logs is_told) ordered damage pair

        first : IsFirstDisagreementIn files r (told_as (IsEditsOf r) files es among (read.from_logs is_told) ordered damage pair)
        first = record {
          whole = whole;
          here = here (IsEditsOf r) files es among (read.from_logs is_told) ordered damage pair;
          region = (
              let f = read.from_logs is_told a in_a in
              let of = of_own a in_a in
              entry_region files a.name f.0 a.entry f.1 f.2 (omega (arith, of.0, given)) ∙ of.0);
          in_first = of_own a in_a;
          in_second = of_own b in_b;
          first = λ y h own_d own_e. none_lower (IsEditsOf r) files es among (read.from_logs is_told) ordered damage pair y h own_d own_e;
        }
