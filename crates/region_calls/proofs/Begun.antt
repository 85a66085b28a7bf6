-- A store that was recovered, on which a device is started.
use Rattle.std.proofs.Common.{◌≡◌, ◌↔◌, ◌⊎◌, inl, inr, ℕ, zero, suc, ◌+◌, ◌-◌, ◌^◌, ◌<◌, ◌≤◌, List, [], ◌∷◌, length, map, take, get_or, Contains, refl, sym, ap, ◌∙◌, subst, arith}
use Rattle.std.proofs.lemmas.Bool.{cases_lt}
use Rattle.log_model.specs.Entry.{Entry}
use Rattle.log_model.specs.Files.{Files}
use Rattle.log_model.specs.Recovered.{IsGreatest, IsSeen, IsFlushed, IsLast, IsRecovered}
use Rattle.recovery_laws.specs.Alike.{AllAlike}
use Rattle.recovery_laws.specs.Change.{RecoversSome, PutBy}
use Rattle.recovery_laws.proofs.Turns.{in_turn}
use Rattle.disk_images.specs.Crash.{DiskView, Throughout}
use Rattle.disk_images.proofs.Moments.{joined, weaker}
use Rattle.region_replay.specs.wal_split.Moments.{During, WasOrAlike}
use Rattle.log_ledger.specs.declared.base.RegionBase.{RegionBase}
use Rattle.log_ledger.specs.Bases.{AreRegions, IsAmong, AreNumbersOf}
use Rattle.append_ring.specs.Rules.{base_of}
use Rattle.log_ledger.specs.Numbers.{IsServed}
use Rattle.log_ledger.specs.History.{started_in}
use Rattle.pass_calls.specs.log_service.log_device.declared.device.Device.{Device}
use Rattle.pass_calls.specs.log_service.log_device.Whole.{IsWhole, IsBroken, IsIdle, log_of, numbers_of}
use Rattle.pass_calls.specs.log_service.Begun.{IsFresh, BeginsAs}
use Rattle.pass_calls.specs.log_service.Halves.{AreNumbersUpTo, HasFewStores}
use Rattle.pass_calls.specs.log_service.log_device.Opened.{IsOpened}
use Rattle.region_replay.specs.Ready.{Found}
use Rattle.region_replay.specs.Opened.{AreOf}
use Rattle.region_replay.specs.Cleared.{IsReady}
use Rattle.region_calls.specs.Seeds.{mark, marks_from, flushed_of}
use Rattle.region_calls.proofs.Marks.{mark_in, mark_at, marks_length, of_at, get_take, flushed_in, flushed_at, flushed_none, some_at, last_at}

greatest_below : (P : ℕ → Type 0) (a b : ℕ) → IsGreatest P a → IsGreatest P b → a ≤ b
greatest_below P a b x y = elim x.reached as (λ _. a ≤ b) [
  | inl p ↦ y.bound a p
  | inr e ↦ omega (arith, e)
]

pub same_greatest : (P : ℕ → Type 0) (a b : ℕ) → IsGreatest P a → IsGreatest P b → a ≡ b
same_greatest P a b x y = let low = greatest_below P a b x y in let high = greatest_below P b a y x in omega (arith, low, high)

module _ (disk : DiskView) (F : Files) (xs : List Found) (ready : IsReady disk) (of : AreOf F disk.files 1 xs) (all : length xs ≡ 64) where
  none_flushed : (r : ℕ) (f : List ℕ) → ((1 ≤ r) × (r ≤ 64) → ⊥) → IsFlushed disk.files r f 0
  none_flushed r f out = record {
    reached = inr refl;
    bound = λ m to.
        let file = to.2.file in
        let range = ready.regions to.0 (λ none. absurd (cc (sym none ∙ file.there))) file.kind in
        absurd (out (omega (arith, range.0, file.of), omega (arith, range.1, file.of)));
  }

  pub each_flushed : (r : ℕ) (f : List ℕ) → IsFlushed disk.files r f (flushed_in xs r)
  each_flushed zero f = none_flushed 0 f (λ p. omega (arith, p.0))
  each_flushed (suc k) f = elim (cases_lt k 64) as (λ _. IsFlushed disk.files (suc k) f (flushed_in xs (suc k))) [
    | inl low ↦
        let x = some_at xs k (omega (arith, low, all)) in
        let is = of_at F disk.files 1 xs of k x.0 x.1 in
        let same : 1 + k ≡ suc k = omega arith in
        subst (λ r. IsFlushed disk.files r f (flushed_in xs (suc k))) same (subst (IsFlushed disk.files (1 + k) f) (sym (flushed_at xs k x.0 x.1)) (is.flushed f))
    | inr high ↦ subst (IsFlushed disk.files (suc k) f) (sym (flushed_none xs k (omega (arith, high, all)))) (none_flushed (suc k) f (λ p. omega (arith, p.1, high)))
  ]

  pub is_opened : (n : ℕ) → IsOpened disk (marks_from 1 (take n xs)) (flushed_in xs)
  is_opened n = record {
    none_gone = ready.none_gone;
    fit = ready.fit;
    no_logs = ready.no_logs;
    no_logs_in = ready.no_logs_in;
    stores_in = ready.stores_in;
    small = ready.small;
    flushed_of = each_flushed;
    marks = λ m has.
        let q = mark_in 1 (take n xs) m has in
        let same : 1 + q.k ≡ suc q.k = omega arith in
        ap (λ (b : RegionBase). flushed_in xs b.region) q.is ∙ ap (flushed_in xs) same ∙ flushed_at xs q.k q.x (get_take n xs q.k q.x q.at) ∙ sym (ap (λ (b : RegionBase). b.flushed) q.is);
    next = λ m name has kind region there.
        let q = mark_in 1 (take n xs) m has in
        let is = of_at F disk.files 1 xs of q.k q.x (get_take n xs q.k q.x q.at) in
        subst (λ k. name.number < k) (sym (ap (λ (b : RegionBase). b.next_store) q.is)) (is.next name kind (region ∙ ap (λ (b : RegionBase). b.region) q.is) there);
  }

  -- with no log the last sequence id is the flushed one
  each_last : (r : ℕ) → IsLast disk.files r (flushed_in xs r)
  each_last r = record {
    reached = elim (each_flushed r []).reached as (λ _. IsSeen disk.files r (flushed_in xs r) ⊎ (flushed_in xs r ≡ 0)) [
      | inl f ↦ inl (inl (f.0, f.1, f.2, f.4))
      | inr e ↦ inr e
    ];
    bound = λ m seen. elim seen as (λ _. m ≤ flushed_in xs r) [
      | inl (name, s, counts, to) ↦ (each_flushed r s.family).bound m (name, s, counts, inr refl, to)
      | inr (e, logged, region, number) ↦ absurd (cc (sym (ready.no_logs logged.name logged.file.kind) ∙ logged.file.there))
    ];
  }

  -- what a device leaves at its start recovers alike
  pub started_alike : (J : Files) → RecoversSome disk.files [] J → AllAlike disk.files J
  started_alike J some r = record {
    fit = some.fit;
    content = λ v p. (
      λ h. (some.recovered r v p).1 (inl h),
      λ h. elim ((some.recovered r v p).0 h) as (λ _. IsRecovered disk.files r v p) [
        | inl was ↦ was
        | inr (e, has, region, puts) ↦ absurd (nothing some.count e has)
      ],
    );
    last = λ n. (
      λ h. subst (IsLast J r) (none_more some.count n) (some.last r n h),
      λ h.
          let there = subst (IsLast J r) (none_more some.count (flushed_in xs r)) (some.last r (flushed_in xs r) (each_last r)) in
          subst (IsLast disk.files r) (same_greatest _ (flushed_in xs r) n there h) (each_last r),
    );
  }
    where
      nothing : (count : ℕ) (e : Entry) → Contains (take count []) e → ⊥
      nothing zero e (k, low, is) = omega (arith, low)
      nothing (suc count) e (k, low, is) = omega (arith, low)

      none_more : (count m : ℕ) → Rattle.recovery_laws.specs.Change.last_of r m (take count []) ≡ m
      none_more zero m = refl
      none_more (suc count) m = refl

  pub moments : (found : DiskView) (left : DiskView) → F ≡ found.files → AllAlike F disk.files → During (WasOrAlike found) found disk → Throughout (RecoversSome disk.files []) 4 disk left → During (WasOrAlike found) found left
  moments found left same alike before more = (
    before.0 + 4,
    joined (WasOrAlike found) before.0 4 found disk left before.1
        (weaker (RecoversSome disk.files []) (WasOrAlike found) 4 disk left (λ J some. inr (in_turn found.files disk.files J (subst (λ f. AllAlike f disk.files) same alike) (started_alike J some))) more),
  )

pub len_map : {A B : Type 0} → (f : A → B) (l : List A) → length (map f l) ≡ length l
len_map f [] = refl
len_map f (x ∷ xs) = ap suc (len_map f xs)

-- what the marks tell of a region
pub record Marked (ms : List RegionBase) (xs : List Found) (first : List ℕ) (r : ℕ) : Type 0 where
  pub among : IsAmong ms r
  pub drawn : (numbers : List ℕ) → AreNumbersOf (λ m. m.flushed) ms numbers → get_or numbers r 0 ≡ base_of first r
  pub flushed : flushed_in xs r ≡ base_of first r

pub marked : (n : ℕ) (xs : List Found) (ms : List RegionBase) (first : List ℕ) → ms ≡ marks_from 1 (take n xs) → first ≡ flushed_of ms → (r : ℕ) → 0 < r → r ≤ length first → Marked ms xs first r
marked n xs ms first is e zero low high = absurd (omega (arith, low))
marked n xs ms first is e (suc k) low high =
    let ys = take n xs in
    let count : length first ≡ length ys = ap length e ∙ len_map (λ (m : RegionBase). m.flushed) ms ∙ ap length is ∙ marks_length 1 ys in
    let x = some_at ys k (omega (arith, high, count)) in
    let has = subst (λ (l : List RegionBase). Contains l (mark (1 + k) x.0)) (sym is) (mark_at 1 ys k x.0 x.1) in
    let same : 1 + k ≡ suc k = omega arith in
    let back : suc k - 1 ≡ k = omega arith in
    let there : base_of first (suc k) ≡ x.0.flushed = ap (λ i. get_or first i 0) back ∙ ap (λ (l : List ℕ). get_or l k 0) (e ∙ ap flushed_of is) ∙ last_at 1 ys k x.0 x.1 in
    record {
      among = (mark (1 + k) x.0, has, same);
      drawn = λ numbers of. ap (λ i. get_or numbers i 0) (sym same) ∙ of.named (mark (1 + k) x.0) has ∙ sym there;
      flushed = flushed_at xs k x.0 (get_take n xs k x.0 x.1) ∙ sym there;
    }

pub is_fresh : {D : Type 0} (n : ℕ) (xs : List Found) (ms : List RegionBase) (first : List ℕ) (d : Device D) → ms ≡ marks_from 1 (take n xs) → first ≡ flushed_of ms
    → (IsBroken d → ⊥) → IsIdle (log_of d) → ((r : ℕ) → IsServed (numbers_of d) r ↔ IsAmong ms r) → AreNumbersOf (λ m. m.flushed) ms (numbers_of d).drawn → (numbers_of d).synced ≡ (numbers_of d).drawn → (numbers_of d).stored ≡ (numbers_of d).drawn → IsFresh first d
is_fresh n xs ms first d is e unbroken idle served drawn synced stored = record {
  unbroken = unbroken;
  idle = idle;
  served = λ r low high. (served r).1 (marked n xs ms first is e r low high).among;
  drawn = λ r low high. (marked n xs ms first is e r low high).drawn (numbers_of d).drawn drawn;
  synced = synced;
  stored = stored;
}

-- the regions' next stores have numbers above those of the files by no more than one and a sequence id, by what was recovered
pub few_marks : (n : ℕ) (xs : List Found) (ms : List RegionBase) (old files : Files) (limit : ℕ) → ms ≡ marks_from 1 (take n xs) → AreOf old files 1 xs → AreRegions ms → AreNumbersUpTo limit files
    → (m : RegionBase) → Contains ms m → m.next_store ≤ limit + 2 ^ 48 + 1
few_marks n xs ms old files limit is of regions bound m has =
    let q = mark_in 1 (take n xs) m (subst (λ (l : List RegionBase). Contains l m) is has) in
    let few = (of_at old files 1 xs of q.k q.x (get_take n xs q.k q.x q.at)).few limit (λ m store region here. bound m here) in
    let at : m.next_store ≡ q.x.next_store = ap (λ (b : RegionBase). b.next_store) q.is in
    let flushed : m.flushed ≡ q.x.flushed = ap (λ (b : RegionBase). b.flushed) q.is in
    omega (arith, few, at, flushed, (regions.each m has).flushed)

pub begins_as : {D : Type 0} (n : ℕ) (xs : List Found) (ms : List RegionBase) (first : List ℕ) (d : Device D) (F : Files) (v : DiskView) → ms ≡ marks_from 1 (take n xs) → first ≡ flushed_of ms
    → HasFewStores F (numbers_of d) → IsWhole d v (started_in F (flushed_in xs)) → BeginsAs F first d v (started_in F (flushed_in xs))
begins_as n xs ms first d F v is e few whole = record {
  whole = whole;
  began = record { base = refl; first = λ r low high. (marked n xs ms first is e r low high).flushed };
  none_durable = refl;
  none_staged = refl;
  no_logs = refl;
  few = few;
}
