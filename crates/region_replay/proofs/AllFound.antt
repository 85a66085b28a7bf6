-- What a split left is what the regions have, and what is made of them is told in their order.
use Rattle.std.proofs.Common.{◌≡◌, inl, inr, ℕ, zero, suc, ◌+◌, ◌-◌, ◌<◌, ◌≤◌, List, [], ◌∷◌, length, get_or, Contains, ap, ◌∙◌, subst, arith}
use Rattle.std.specs.Prelude.{AllPairs}
use Rattle.std.specs.declared.cmp.Ordering.TheVariants.{Less}
use Rattle.std.proofs.lemmas.List.Elements.{Contains-get_or}
use Rattle.log_model.specs.declared.name.Name.{Name}
use Rattle.log_model.specs.declared.name.NameKind.TheVariants as kinds
use Rattle.log_model.specs.Files.{Files, name_cmp, IsPresent}
use Rattle.recovery_laws.specs.Alike.{AllAlike, StoresStand}
use Rattle.wal_split.specs.declared.flushed.RegionFlushed.{RegionFlushed}
use Rattle.wal_split.specs.declared.job.EditsJob.{EditsJob}
use Rattle.wal_split.specs.declared.split_files.SplitFiles.{SplitFiles}
use Rattle.wal_split.specs.Left.{IsInRange, AreLeft}
use Rattle.region_replay.specs.declared.found.RegionFiles.{RegionFiles}
use Rattle.region_replay.specs.Dealt.{IsDealt, AreDealt}
use Rattle.region_replay.specs.Opened.{AreOf, AreStoresReplayed}
use Rattle.region_replay.specs.Ready.{Found, IsOf}
use Rattle.region_replay.specs.Regions.{IsInOrder, IsFound}
use Rattle.region_replay.specs.Stored.{StoresReplayed}
use Rattle.region_replay.specs.Whole.{AreApart, AreAllFound, AllOf, AllStoresReplayed, NoNewNames}
use Rattle.region_replay.proofs.NewStores.{all_stored_since}
use Rattle.region_replay.proofs.Passing.{of_alike}
use Rattle.region_replay.proofs.RegionsFound.{is_found}
use Rattle.region_replay.proofs.RegionsInOrder.{in_order}
use Rattle.region_replay.proofs.Shares.{good_name}

-- the regions of a list, from one on
abbrev AreFrom : ℕ → List RegionFiles → Type 0
AreFrom r xs = (k : ℕ) (d : RegionFiles) → k < length xs → (get_or xs k d).region ≡ r + k

first_job : (xs : List EditsJob) → 0 < length xs → EditsJob
first_job [] lt = absurd (omega (arith, lt))
first_job (x ∷ xs) lt = x

first_flushed : (xs : List RegionFlushed) → 0 < length xs → RegionFlushed
first_flushed [] lt = absurd (omega (arith, lt))
first_flushed (x ∷ xs) lt = x

first_region : (xs : List RegionFiles) → 0 < length xs → RegionFiles
first_region [] lt = absurd (omega (arith, lt))
first_region (x ∷ xs) lt = x

apart_regions : (r : ℕ) (xs : List RegionFiles) → AreFrom r xs → AreApart xs
apart_regions r [] from = tt
apart_regions r (x ∷ xs) from = (
  λ y has same. (
      let one : x.region ≡ r + zero = from zero x (omega arith) in
      let within = has.1 in
      let two : (get_or xs has.0 y).region ≡ r + suc has.0 = from (suc has.0) y (omega (arith, within)) in
      let is : (get_or xs has.0 y).region ≡ y.region = ap (λ (z : RegionFiles). z.region) has.2 in
      absurd (omega (arith, one, two, is, same))),
  apart_regions (r + 1) xs (λ k d lt. (let next : (get_or xs k d).region ≡ r + suc k = from (suc k) d (omega (arith, lt)) in omega (arith, next))),
)

-- what is made of regions in order is told in their order
all_in_order : (old now new : Files) → AllAlike old now → (r : ℕ) (xs : List RegionFiles) (ys : List Found) → AreFrom r xs → AllOf now new xs ys → AreOf old new r ys
all_in_order old now new alike r [] [] from all = tt
all_in_order old now new alike r [] (y ∷ ys) from all = absurd all
all_in_order old now new alike r (x ∷ xs) [] from all = absurd all
all_in_order old now new alike r (x ∷ xs) (y ∷ ys) from all =
    let one : x.region ≡ r + zero = from zero x (omega arith) in (
      of_alike old now new r y alike (subst (λ (q : ℕ). IsOf now new q y) (omega (arith, one)) all.0),
      all_in_order old now new alike (r + 1) xs ys (λ k d lt. (let next : (get_or xs k d).region ≡ r + suc k = from (suc k) d (omega (arith, lt)) in omega (arith, next))) all.1,
    )

-- and what was stored of them
stored_in_order : (old now new : Files) → StoresStand old now → (r : ℕ) (xs : List RegionFiles) (ys : List Found) → AreFrom r xs → AllStoresReplayed now new xs ys → AreStoresReplayed old new r ys
stored_in_order old now new stand r [] [] from all = tt
stored_in_order old now new stand r [] (y ∷ ys) from all = absurd all
stored_in_order old now new stand r (x ∷ xs) [] from all = absurd all
stored_in_order old now new stand r (x ∷ xs) (y ∷ ys) from all =
    let one : x.region ≡ r + zero = from zero x (omega arith) in (
      all_stored_since old now new stand r y (subst (λ (q : ℕ). StoresReplayed now new q y) (omega (arith, one)) all.0),
      stored_in_order old now new stand (r + 1) xs ys (λ k d lt. (let next : (get_or xs k d).region ≡ r + suc k = from (suc k) d (omega (arith, lt)) in omega (arith, next))) all.1,
    )

module _ (told : Type 0) (x : SplitFiles) (range : IsInRange x) (xs : List RegionFiles) (dealt : AreDealt x.plan.jobs.items x.plan.flushed.items x.names x.stores.items x.plan.kept.items xs) where
  some_job : EditsJob
  some_job = (let long = range.long in first_job x.plan.jobs.items (omega (arith, long)))

  some_flushed : RegionFlushed
  some_flushed = (let long = range.flushed.long in first_flushed x.plan.flushed.items (omega (arith, long)))

  from_one : AreFrom 1 xs
  from_one k d lt = (let long = dealt.long in let r = (dealt.each k d some_job some_flushed (omega (arith, lt, long))).region in omega (arith, r))

  pub are_apart : AreApart xs
  are_apart = apart_regions 1 xs from_one

  pub all_told : (old now new : Files) → AllAlike old now → (ys : List Found) → AllOf now new xs ys → AreOf old new 1 ys
  all_told old now new alike ys all = all_in_order old now new alike 1 xs ys from_one all

  pub all_stored : (old now new : Files) → StoresStand old now → (ys : List Found) → AllStoresReplayed now new xs ys → AreStoresReplayed old new 1 ys
  all_stored old now new stand ys all = stored_in_order old now new stand 1 xs ys from_one all

  pub each_in_order : (told → AllPairs (λ a b. name_cmp a b ≡ Less) x.names) → (y : RegionFiles) → Contains xs y → IsInOrder told y
  each_in_order rise y has =
      let long = dealt.long in
      let within = has.1 in
      let lt : has.0 < 64 = omega (arith, within, long) in
      in_order told x range has.0 lt some_job some_flushed y dealt.valid (subst (λ (z : RegionFiles). IsDealt (get_or x.plan.jobs.items has.0 some_job) (has.0 + 1) (get_or x.plan.flushed.items (has.0 + 1) some_flushed) x.names x.stores.items x.plan.kept.items z) has.2 (dealt.each has.0 y some_job some_flushed lt)) rise

  each_found : (files : Files) → AreLeft files x → (y : RegionFiles) → Contains xs y → IsFound files y
  each_found files left y has =
      let long = dealt.long in
      let within = has.1 in
      let lt : has.0 < 64 = omega (arith, within, long) in
      is_found told x range has.0 lt some_job some_flushed y dealt.valid (subst (λ (z : RegionFiles). IsDealt (get_or x.plan.jobs.items has.0 some_job) (has.0 + 1) (get_or x.plan.flushed.items (has.0 + 1) some_flushed) x.names x.stores.items x.plan.kept.items z) has.2 (dealt.each has.0 y some_job some_flushed lt)) files left

  -- an edits file that is there is of a region from 1 to 64
  edits_region : (files : Files) → AreLeft files x → (m : Name) → m.kind ≡ kinds.Edits → IsPresent files m → (1 ≤ m.region) × (m.region ≤ 64)
  edits_region files left m edits here = elim (left.all_edits m edits here) as (λ _. (1 ≤ m.region) × (m.region ≤ 64)) [
    | inl old ↦ (good_name x.names m (range.good m old)).region (inr edits)
    | inr (k, lt, both) ↦ (let region : m.region ≡ k + 1 = ap (λ (n : Name). n.region) ((both some_job).0 ∙ range.named k some_job lt) in (omega (arith, region), omega (arith, region, lt)))
  ]

  pub are_all_found : (files : Files) → AreLeft files x → AreAllFound files xs
  are_all_found files left = record {
    found = record {
      each = each_found files left;
      no_logs = left.no_logs;
      given = λ m edits here. (edits_region files left m edits here).0;
    };
    all = λ m edits here. (
        let long = dealt.long in
        let r = edits_region files left m edits here in
        let k : ℕ = m.region - 1 in
        let lt : k < length xs = omega (arith, r.0, r.1, long) in
        let d = first_region xs (omega (arith, long)) in
        let region : (get_or xs k d).region ≡ 1 + k = from_one k d lt in
        (get_or xs k d, Contains-get_or xs k d lt, omega (arith, region, r.0)));
    small = left.small;
    regions = λ m here store. (good_name x.names m (range.good m (left.store_names m store here))).region (inl store);
  }

  -- no new name is above those of before but by one
  pub one_above : (now new : Files) → NoNewNames now new xs → (n : ℕ) → ((m : Name) → IsPresent now m → m.number ≤ n + 1) → ((m : Name) → Contains x.names m → m.number ≤ n) → (m : Name) → IsPresent new m → m.number ≤ n + 1
  one_above now new names n bound low m here = elim (names m here) as (λ _. m.number ≤ n + 1) [
    | inl was ↦ bound m was
    | inr (y, has, is) ↦ (
        let long = dealt.long in
        let within = has.1 in
        let lt : has.0 < 64 = omega (arith, within, long) in
        let one = subst (λ (z : RegionFiles). IsDealt (get_or x.plan.jobs.items has.0 some_job) (has.0 + 1) (get_or x.plan.flushed.items (has.0 + 1) some_flushed) x.names x.stores.items x.plan.kept.items z) has.2 (dealt.each has.0 y some_job some_flushed lt) in
        let number : m.number ≡ y.next_store = ap (λ (k : Name). k.number) is in
        elim one.next as (λ _. m.number ≤ n + 1) [
          | inl first ↦ omega (arith, number, first)
          | inr (k, member, store, of, next) ↦ (let l = low k member in omega (arith, number, next, l))
        ])
  ]
