-- How many regions are replayed.
use Rattle.std.proofs.Common.{◌≡◌, ◌≢◌, ◌⊎◌, inl, inr, ℕ, ◌+◌, ◌≤◌, ◌^◌, List, [], ◌∷◌, ◌++◌, Contains, Option, Some, None, refl, sym, ap, ◌∙◌, subst, arith}
use Rattle.std.proofs.Math.Logic.{∥∥₁_elim}
use Rattle.std.proofs.lemmas.List.Elements.{Contains-push, Contains-push_cases, Contains-append_left, Contains-append_right}
use Rattle.log_model.specs.declared.name.Name.{Name}
use Rattle.log_model.specs.declared.name.NameKind.TheVariants as kinds
use Rattle.log_model.specs.Files.{Files, content, Reads, IsAbsent, HoldsEntries, IsPresent}
use Rattle.disk_images.specs.Crash.{DiskView}
use Rattle.disk_images.specs.Calls.{IsTrueDisk}
use Rattle.disk_images.proofs.Moments.{at_once, joined}
use Rattle.disk_images.proofs.Settled.{present_cases}
use Rattle.recovery_laws.specs.Alike.{AllAlike}
use Rattle.recovery_laws.specs.Kept.{HasNoLogs}
use Rattle.region_replay.specs.Cleared.{IsCleared, IsReady}
use Rattle.region_replay.specs.declared.found.RegionFiles.{RegionFiles}
use Rattle.wal_split.specs.Held.{IsHeld}
use Rattle.wal_split.specs.Moments.{During}
use Rattle.region_replay.specs.Names.{store_name}
use Rattle.region_replay.specs.Ready.{Found, IsOf}
use Rattle.region_replay.specs.Regions.{IsInOrder, IsFound}
use Rattle.region_replay.specs.Stored.{StoresReplayed}
use Rattle.region_replay.specs.Whole.{AreApart, AreFound, AllOf, AllStoresReplayed, HaveNoEdits, AreAllFound, NoNewNames}
use Rattle.region_replay.proofs.Showing.{alike_between}
use Rattle.region_replay.proofs.Sorting.{none_in, is_first, is_later, first_or_later}
use Rattle.region_replay.proofs.Passing.{SameOf, flushed_on, found_on, of_on, of_alike, same_of, no_logs_on, given_on, none_left, no_new}
use Rattle.region_replay.proofs.NewStores.{stored_on, stored_since}

pub record Going (told : Type 0) (first now : DiskView) (all ys rest : List RegionFiles) (xs : List Found) : Type 0 where
  pub held : told → (base : Files) → IsHeld base first → AreFound first.files all → IsHeld base now
  pub moments : told → (base : Files) → IsHeld base first → AreFound first.files all → During (AllAlike base) first now
  pub found : told → (base : Files) → IsHeld base first → AreFound first.files all → AreFound now.files rest
  pub of : told → (base : Files) → IsHeld base first → AreFound first.files all → AllOf first.files now.files ys xs
  pub no_edits : told → (base : Files) → IsHeld base first → AreFound first.files all → HaveNoEdits now.files ys
  pub names : told → (base : Files) → IsHeld base first → AreFound first.files all → NoNewNames first.files now.files ys
  pub olds : told → (m : Name) → m.kind ≡ kinds.Old → content now.files m ≡ content first.files m
  pub untouched : told → (r : ℕ) → ((y : RegionFiles) → Contains ys y → y.region ≢ r) → SameOf r first.files now.files
  pub stored : told → (base : Files) → IsHeld base first → AreFound first.files all → AllStoresReplayed first.files now.files ys xs

pub none_yet : (told : Type 0) (v : DiskView) (all : List RegionFiles) → Going told v v all [] all []
none_yet told v all = record {
  held = λ t base held found. held;
  moments = λ t base held found. (0, at_once (AllAlike base) v held.alike);
  found = λ t base held found. found;
  of = λ t base held found. tt;
  no_edits = λ t base held found x m has edits region. absurd (none_in x has);
  names = λ t base held found m here. inl here;
  olds = λ t m old. refl;
  untouched = λ t r apart m kind region. refl;
  stored = λ t base held found. tt;
}

pub all_of_more : (old I J : Files) (ys : List RegionFiles) (xs : List Found) (y : RegionFiles) (x : Found) → ((z : RegionFiles) → Contains ys z → SameOf z.region I J) → AllOf old I ys xs → IsOf old J y.region x → AllOf old J (ys ++ y ∷ []) (xs ++ x ∷ [])
all_of_more old I J [] [] y x same all one = (one, tt)
all_of_more old I J [] (w ∷ ws) y x same all one = absurd all
all_of_more old I J (z ∷ zs) [] y x same all one = absurd all
all_of_more old I J (z ∷ zs) (w ∷ ws) y x same all one = (of_on old I J z.region w (same z (is_first z zs)) all.0, all_of_more old I J zs ws y x (λ u has. same u (is_later z zs u has)) all.1 one)

-- and what was stored of them
pub all_stored_more : (old I J : Files) (ys : List RegionFiles) (xs : List Found) (y : RegionFiles) (x : Found) → ((z : RegionFiles) → Contains ys z → SameOf z.region I J) → AllStoresReplayed old I ys xs → StoresReplayed old J y.region x
    → AllStoresReplayed old J (ys ++ y ∷ []) (xs ++ x ∷ [])
all_stored_more old I J [] [] y x same all one = (one, tt)
all_stored_more old I J [] (w ∷ ws) y x same all one = absurd all
all_stored_more old I J (z ∷ zs) [] y x same all one = absurd all
all_stored_more old I J (z ∷ zs) (w ∷ ws) y x same all one =
    (stored_on old I J z.region w (λ m store region. same z (is_first z zs) m (inl store) region) all.0, all_stored_more old I J zs ws y x (λ u has. same u (is_later z zs u has)) all.1 one)

-- the region is none of those before it and after it
pub apart_before : (ys : List RegionFiles) (x : RegionFiles) (rest : List RegionFiles) → AreApart (ys ++ x ∷ rest) → (z : RegionFiles) → Contains ys z → x.region ≢ z.region
apart_before [] x rest apart z has = absurd (none_in z has)
apart_before (y ∷ ys) x rest apart z has = elim (first_or_later y ys z has) as (λ _. x.region ≢ z.region) [
  | inl is ↦ λ same. apart.0 x (Contains-append_right ys (x ∷ rest) x (is_first x rest)) (ap (λ (k : RegionFiles). k.region) is ∙ sym same)
  | inr later ↦ apart_before ys x rest apart.1 z later
]

pub apart_behind : (ys : List RegionFiles) (x : RegionFiles) (rest : List RegionFiles) → AreApart (ys ++ x ∷ rest) → (z : RegionFiles) → Contains rest z → x.region ≢ z.region
apart_behind [] x rest apart z has = apart.0 z has
apart_behind (y ∷ ys) x rest apart z has = apart_behind ys x rest apart.1 z has

module _ (told : Type 0) (first v w : DiskView) (all ys rest : List RegionFiles) (xs : List Found) (x : RegionFiles) (so_far : Going told first v all ys (x ∷ rest) xs) where
  -- what the replay of the next region asks of the disk
  pub next_absent : (t : told) (base : Files) → IsHeld base first → AreFound first.files all → IsAbsent v.files (store_name x.region x.next_store) × (¬ v.gone (store_name x.region x.next_store))
  next_absent t base held found = (
    elim (present_cases v.files (store_name x.region x.next_store)) as (λ _. IsAbsent v.files (store_name x.region x.next_store)) [
      | inl none ↦ none
      | inr some ↦ (let below = ((so_far.found t base held found).each x (is_first x rest)).next (store_name x.region x.next_store) refl refl (λ gone. absurd (cc (sym gone ∙ some.1))) in absurd (omega (arith, below)))
    ],
    λ gone. no_entries ((so_far.held t base held found).gone (store_name x.region x.next_store) gone),
  )
    where
      no_entries : (kinds.Store ≡ kinds.Log) ⊎ (kinds.Store ≡ kinds.Edits) → ⊥
      no_entries (inl is) = absurd cc
      no_entries (inr is) = absurd cc

  pub next_there : (t : told) (base : Files) → IsHeld base first → AreFound first.files all → (m : Name) → Contains x.edits.items m → (c : List ℕ) × Reads v.files m c
  next_there t base held found m has = (let text = ((so_far.found t base held found).each x (is_first x rest)).texts m has in (text.2.bytes, text.2.there))

  module _ (true_v : told → IsTrueDisk v) (true_first : told → IsTrueDisk first) (orders : (z : RegionFiles) → Contains all z → IsInOrder told z) (among : (z : RegionFiles) → Contains (x ∷ rest) z → Contains all z) (before : (z : RegionFiles) → Contains ys z → x.region ≢ z.region) (behind : (z : RegionFiles) → Contains rest z → x.region ≢ z.region)
      (moments : told → (base : Files) → IsHeld base v → IsFound v.files x → During (AllAlike base) v w) where
    pub moments_on : told → (base : Files) → IsHeld base first → AreFound first.files all → During (AllAlike base) first w
    moments_on t base held found =
        let one = so_far.moments t base held found in
        let two = moments t base (so_far.held t base held found) ((so_far.found t base held found).each x (is_first x rest)) in
        (one.0 + two.0, joined (AllAlike base) one.0 two.0 first v w one.1 two.1)

    pub one_more : (y : Found) → (told → (base : Files) → IsHeld base v → IsFound v.files x → IsHeld base w) → (told → (base : Files) → IsHeld base v → IsFound v.files x → IsOf v.files w.files x.region y)
        → (told → (m : Name) → Contains x.edits.items m → IsAbsent w.files m) → (told → (m : Name) → m ≢ store_name x.region x.next_store → ((n : Name) → Contains x.edits.items n → m ≢ n) → content w.files m ≡ content v.files m)
        → (told → IsFound v.files x → StoresReplayed v.files w.files x.region y)
        → Going told first w all (ys ++ x ∷ []) rest (xs ++ y ∷ [])
    one_more y held_on of left others one_stored = record {
      held = λ t base held found. held_on t base (so_far.held t base held found) (here t base held found);
      moments = moments_on;
      found = λ t base held found. (
          let f = so_far.found t base held found in
          let no_logs = no_logs_on x order v.files w.files (others t) f.no_logs in
          let given = given_on x order v.files w.files (others t) f.given in
          record {
            each = λ z has. found_on v.files w.files z (same_of x order v.files w.files (others t) z.region (behind z has)) f.no_logs no_logs f.given given (orders z (among z (is_later x rest z has))) (f.each z (is_later x rest z has));
            no_logs = no_logs;
            given = given;
          });
      of = λ t base held found.
          all_of_more first.files v.files w.files ys xs x y (λ z has. same_of x order v.files w.files (others t) z.region (before z has)) (so_far.of t base held found)
          (of_alike first.files v.files w.files x.region y
          (alike_between base first.files v.files (held.alike first.files (true_first t).reads) ((so_far.held t base held found).alike v.files (true_v t).reads))
          (of t base (so_far.held t base held found) (here t base held found)));
      no_edits = λ t base held found z m has edits region. elim (Contains-push_cases ys x z has) as (λ _. IsAbsent w.files m) [
        | inl was ↦ same_of x order v.files w.files (others t) z.region (before z was) m (inr edits) region ∙ so_far.no_edits t base held found z m was edits region
        | inr is ↦ none_left x order v.files w.files (others t) (here t base held found) (left t) m edits (region ∙ sym (ap (λ (k : RegionFiles). k.region) is))
      ];
      names = λ t base held found m present. elim (no_new x order v.files w.files (others t) (here t base held found) (left t) m present) as (λ _. IsPresent first.files m ⊎ ((z : RegionFiles) × Contains (ys ++ x ∷ []) z × (m ≡ store_name z.region z.next_store))) [
        | inr is ↦ inr (x, Contains-push ys x, is)
        | inl was ↦ elim (so_far.names t base held found m was) as (λ _. IsPresent first.files m ⊎ ((z : RegionFiles) × Contains (ys ++ x ∷ []) z × (m ≡ store_name z.region z.next_store))) [
          | inl first_there ↦ inl first_there
          | inr (z, has, is) ↦ inr (z, Contains-append_left ys (x ∷ []) z has, is)
        ]
      ];
      olds = λ t m old. others t m (λ is. absurd (cc (sym old ∙ ap (λ (k : Name). k.kind) is))) (λ n has is. absurd (cc (sym old ∙ ap (λ (k : Name). k.kind) is ∙ order.edits.kind n has))) ∙ so_far.olds t m old;
      untouched = λ t r apart m kind region.
          same_of x order v.files w.files (others t) r (apart x (Contains-push ys x)) m kind region ∙ so_far.untouched t r (λ z has. apart z (Contains-append_left ys (x ∷ []) z has)) m kind region;
      stored = λ t base held found.
          let still : SameOf x.region first.files v.files = so_far.untouched t x.region (λ z has same. before z has (sym same)) in
          all_stored_more first.files v.files w.files ys xs x y (λ z has. same_of x order v.files w.files (others t) z.region (before z has)) (so_far.stored t base held found)
          (stored_since first.files v.files w.files x.region y (λ m store region. still m (inl store) region) (λ n. flushed_on x.region v.files first.files (λ m kind region. sym (still m kind region)) [] n)
          (one_stored t (here t base held found)));
    }
      where
        order : IsInOrder told x
        order = orders x (among x (is_first x rest))

        here : (t : told) (base : Files) → IsHeld base first → AreFound first.files all → IsFound v.files x
        here t base held found = (so_far.found t base held found).each x (is_first x rest)

-- what a truncated fact says of an absent file
pub absent_by : {X : Type 0} (image : Option (List ℕ)) → ∥ X ∥₁ → (X → image ≡ None) → image ≡ None
absent_by None some then = refl
absent_by (Some bytes) some then = absurd (∥∥₁_elim some (λ a b. absurd a) (λ x. absurd (cc (then x))))

pub next_of : {A : Type 0} (all ys : List A) (x : A) (rest old : List A) → ys ++ old ≡ all → old ≡ x ∷ rest → all ≡ ys ++ x ∷ rest
next_of all ys x rest old is steps = sym is ∙ ap (λ l. ys ++ l) steps

pub among_all : {A : Type 0} (all ys : List A) (x : A) (rest : List A) → all ≡ ys ++ x ∷ rest → (z : A) → Contains (x ∷ rest) z → Contains all z
among_all {A} all ys x rest is z has = subst (λ (l : List A). Contains l z) (sym is) (Contains-append_right ys (x ∷ rest) z has)

-- ---- the end

module _ (base : Files) (u v w : DiskView) (xs : List RegionFiles) {told : Type 0} (orders : (z : RegionFiles) → Contains xs z → IsInOrder told z) (found : AreAllFound u.files xs) (none : HaveNoEdits v.files xs) (names : NoNewNames u.files v.files xs) where
  pub none_logged : HasNoLogs v.files
  none_logged m holds = elim (present_cases v.files m) as (λ _. IsAbsent v.files m) [
    | inl gone ↦ gone
    | inr some ↦ absurd (left m holds (λ gone. absurd (cc (sym gone ∙ some.1))))
  ]
    where
      no_store_name : (m : Name) (r n : ℕ) → HoldsEntries m.kind → m ≡ store_name r n → ⊥
      no_store_name m r n (inl log) is = absurd (cc (sym log ∙ ap (λ (k : Name). k.kind) is))
      no_store_name m r n (inr edits) is = absurd (cc (sym edits ∙ ap (λ (k : Name). k.kind) is))

      was_there : (m : Name) → HoldsEntries m.kind → IsPresent v.files m → IsPresent u.files m
      was_there m holds here = elim (names m here) as (λ _. IsPresent u.files m) [ inl was ↦ was | inr (x, has, is) ↦ absurd (no_store_name m x.region x.next_store holds is) ]

      left : (m : Name) → HoldsEntries m.kind → IsPresent v.files m → ⊥
      left m (inl log) here = was_there m (inl log) here (found.found.no_logs m log)
      left m (inr edits) here = (let x = found.all m edits (was_there m (inr edits) here) in here (none x.0 m x.1 edits (sym x.2)))

  pub ready : w.files ≡ v.files → IsCleared w → IsReady w
  ready same cleared = record {
    none_gone = cleared.none_gone;
    fit = cleared.fit;
    no_logs = cleared.no_logs;
    no_logs_in = cleared.no_logs_in;
    stores_in = cleared.stores_in;
    small = λ m here. elim (names m (λ gone. here (ap (λ (f : Files). content f m) same ∙ gone))) as (λ _. m.number ≤ 2 ^ 63) [
      | inl was ↦ found.small m was
      | inr (x, has, is) ↦ (let low = (orders x has).next in let number : m.number ≡ x.next_store = ap (λ (k : Name). k.number) is in omega (arith, low, number))
    ];
    regions = λ m here store. elim (names m (λ gone. here (ap (λ (f : Files). content f m) same ∙ gone))) as (λ _. (1 ≤ m.region) × (m.region ≤ 64)) [
      | inl was ↦ found.regions m was store
      | inr (x, has, is) ↦ (let o = orders x has in let region : m.region ≡ x.region = ap (λ (k : Name). k.region) is in (omega (arith, o.given, region), omega (arith, o.region, region)))
    ];
  }
