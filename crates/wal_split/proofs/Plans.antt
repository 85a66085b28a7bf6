-- What a plan gives the steps that change files.
use Rattle.std.proofs.Common.{◌≡◌, ◌⊎◌, inl, inr, ℕ, ◌+◌, ◌<◌, ◌≤◌, ◌^◌, List, [], ◌∷◌, length, take, get_or, Contains, None, is_some, refl, sym, ap, ◌∙◌, subst, arith}
use Rattle.std.specs.FinMap.{keys}
use Rattle.std.proofs.lemmas.Bool.{cases_eq, cases_lt}
use Rattle.std.proofs.lemmas.List.{get_or-take, length-take}
use Rattle.std.proofs.lemmas.List.Elements.{Contains-get_or, recursion_from_All, All-from_recursion, All-contains}
use Rattle.log_model.specs.declared.name.Name.{Name}
use Rattle.log_model.specs.declared.name.NameKind.TheVariants as kinds
use Rattle.log_model.specs.Entry.{Entry, IsEntry}
use Rattle.log_model.specs.LogText.{IsEntryOf, in_version}
use Rattle.log_model.proofs.TextLaws.{HasVersion, with_version}
use Rattle.log_model.specs.Files.{Files, content, Reads, IsAbsent, IsPresent, IsLogFile, IsLogged, key_of}
use Rattle.log_model.specs.Recovered.{IsGreatest, FlushesTo, IsFlushed}
use Rattle.disk_images.specs.Crash.{DiskView}
use Rattle.disk_images.specs.Calls.{IsTrueDisk}
use Rattle.disk_images.specs.Settled.{IsSettled}
use Rattle.disk_images.proofs.Settled.{among_names, there_of, present_cases, read_of}
use Rattle.recovery_laws.specs.Alike.{AllAlike, StoresStand}
use Rattle.recovery_laws.specs.Laws.{IsFlushedEntry}
use Rattle.found_files.specs.declared.found.FoundEntry.{FoundEntry}
use Rattle.found_files.specs.declared.found.FoundStore.{FoundStore}
use Rattle.found_files.specs.Found.{AreRead, place_in}
use Rattle.found_files.specs.Counting.{AreCounting, AreCountingOf}
use Rattle.found_files.proofs.Files.{one_list}
use Rattle.found_files.proofs.Greatest.{greatest_same}
use Rattle.found_files.proofs.Placing.{none_in}
use Rattle.found_files.proofs.ReadSteps.{contents_of}
use Rattle.found_files.proofs.Replaced.{counting_of}
use Rattle.wal_split.specs.declared.job.EditsJob.{EditsJob}
use Rattle.wal_split.specs.declared.planning.Plan.{Plan}
use Rattle.wal_split.specs.Flushed.{GoesTo, flushed_at}
use Rattle.wal_split.specs.Unflushed.{IsAbove, IsBefore, IsUnflushedEntry}
use Rattle.wal_split.specs.Grouped.{edits_name}
use Rattle.wal_split.specs.Jobs.{AreJobs, AreFreeNames, AllLogged, IsNoJob}
use Rattle.wal_split.specs.Logs.{AreFree, AreRising, IsOther, LogsAreOld, log_name, old_name}
use Rattle.wal_split.specs.Covered.{LogsCovered}
use Rattle.wal_split.specs.Planned.{IsPlan}
use Rattle.wal_split.specs.Held.{IsHeld}
use Rattle.wal_split.specs.Told.{Counts}
use Rattle.wal_split.specs.Copies.{IsInLog}
use Rattle.wal_split.proofs.LogNumbers.{log_of, has_log, logs_rise}
use Rattle.wal_split.proofs.Above.{above_cases, low_flushed, above_unflushed, unflushed_above, goes_at, goes_flushes, flushes_goes}

module _ (names : List Name) (xs : List FoundEntry) (ss : List FoundStore) (p : Plan) (plan : IsPlan names xs ss p) where
  abbrev jobs : List EditsJob
  jobs = p.jobs.items

  pub place : (j : EditsJob) → Contains jobs j → (k : ℕ) × (k < 64) × (get_or jobs k j ≡ j)
  place j has = (has.0, omega (arith, has.1, plan.jobs.long), has.2)

  pub name_at : (j : EditsJob) (k : ℕ) → k < 64 → get_or jobs k j ≡ j → j.name ≡ edits_name (k + 1) plan.number
  name_at j k lt is = sym (ap (λ (x : EditsJob). x.name) is) ∙ plan.jobs.names k j lt

  pub entry_at : (j : EditsJob) (k : ℕ) (e : Entry) → k < 64 → get_or jobs k j ≡ j → Contains j.entries.items e → Contains plan.logged e × (e.region ≡ k + 1) × IsEntry e
  entry_at j k e lt is has = plan.jobs.each k j e lt (subst (λ (x : EditsJob). Contains x.entries.items e) (sym is) has)

  pub kind_of : (j : EditsJob) → Contains jobs j → j.name.kind ≡ kinds.Edits
  kind_of j has = (let q = place j has in ap (λ (n : Name). n.kind) (name_at j q.0 q.1 q.2))

  pub number_of : (j : EditsJob) → Contains jobs j → j.name.number ≡ plan.number
  number_of j has = (let q = place j has in ap (λ (n : Name). n.number) (name_at j q.0 q.1 q.2))

  pub are_jobs : AreJobs jobs
  are_jobs = record {
    kind = kind_of;
    each = λ j has.
        let q = place j has in
        let region : j.name.region ≡ q.0 + 1 = ap (λ (n : Name). n.region) (name_at j q.0 q.1 q.2) in
        recursion_from_All (IsEntryOf (in_version 2 (key_of j.name))) j.entries.items (λ i d lt.
        let r = entry_at j q.0 (get_or j.entries.items i d) q.1 q.2 (Contains-get_or j.entries.items i d lt) in
        record { entry = r.2; region = λ given. r.1 ∙ sym region; form = λ one. absurd (omega (arith, one)) });
    apart = λ i x j lt has same.
        let within : has.0 < i = omega (arith, has.1, take_short i) in
        let here : get_or jobs has.0 j ≡ j = sym (get_or-take i jobs has.0 j within) ∙ has.2 in
        let one : j.name ≡ edits_name (has.0 + 1) plan.number = name_at j has.0 (omega (arith, within, lt, plan.jobs.long)) here in
        let other : (get_or jobs i x).name ≡ edits_name (i + 1) plan.number = plan.jobs.names i x (omega (arith, lt, plan.jobs.long)) in
        omega (arith, within, ap (λ (n : Name). n.region) (sym other ∙ same ∙ one));
  }
    where
      take_short : (i : ℕ) → length (take i jobs) ≤ i
      take_short i = omega (arith, length-take i jobs)

pub valid_entry : (files : Files) (name : Name) (l : List Entry) (e : Entry) → IsLogFile files name l → Contains l e → IsEntry e
valid_entry files name l e file member = go (with_version (key_of name) file.bytes l file.ended file.text)
  where
    go : HasVersion (key_of name) file.bytes l file.ended → IsEntry e
    go (v, known, inl short) = absurd (none_in e (subst (λ (k : List Entry). Contains k e) short.1 member))
    go (v, known, inr (rest, begins, ends)) = (All-contains (IsEntryOf (in_version v (key_of name))) l e (All-from_recursion (IsEntryOf (in_version v (key_of name))) l begins.each) member).entry

module _ (told : Type 0) (is_told : told) (v : DiskView) (true_disk : IsTrueDisk v) (settled : IsSettled v) (xs : List FoundEntry) (every ss : List FoundStore) (p : Plan)
    (read : AreRead told v.files (keys v.files) (keys v.files) xs every) (counts : AreCounting every ss) (plan : IsPlan (keys v.files) xs ss p) where
  pub small : (m : Name) → IsPresent v.files m → m.number ≤ 2 ^ 62
  small m here = elim (cases_lt (2 ^ 62) m.number) as (λ _. m.number ≤ 2 ^ 62) [ inl high ↦ absurd (read.good m (among_names v.files m here) (inl high)) | inr low ↦ low ]

  pub is_some_there : (m : Name) (c : List ℕ) → Reads v.files m c → IsPresent v.files m
  is_some_there m c reads none = absurd (cc (sym none ∙ reads))

  log_named : (m : Name) → Contains (keys v.files) m → m.kind ≡ kinds.Log → m ≡ log_name m.number
  log_named m has log =
      let r = read_of v.files m has in
      let region : m.region ≡ 0 = true_disk.named m (ap is_some r.1) (inl log) in
      λ i. record { kind = log i; region = region i; number = m.number }

  pub are_free_names : AreFreeNames v p.jobs.items
  are_free_names j has = (
    elim (present_cases v.files j.name) as (λ _. IsAbsent v.files j.name) [
      | inl none ↦ none
      | inr some ↦ absurd (omega (arith, plan.above j.name (among_names v.files j.name (is_some_there j.name some.0 some.1)) (λ store. absurd (cc (sym store ∙ kind_of (keys v.files) xs ss p plan j has))), number_of (keys v.files) xs ss p plan j has))
    ],
    settled.none_gone j.name,
  )

  pub log_there : (n : ℕ) → Contains p.logs.items n → Contains (keys v.files) (log_name n)
  log_there n has =
      let r = log_of (keys v.files) n (subst (λ (l : List ℕ). Contains l n) plan.logs has) in
      subst (λ (m : Name). Contains (keys v.files) m) (log_named r.0 r.1 r.2 ∙ ap log_name r.3) r.1

  pub are_free : AreFree v p.logs.items
  are_free = record {
    there = λ n has. read_of v.files (log_name n) (log_there n has);
    old = λ n has. (
      elim (present_cases v.files (old_name n)) as (λ _. IsAbsent v.files (old_name n)) [
        | inl none ↦ none
        | inr some ↦ absurd (read.good (log_name n) (log_there n has) (inr (inr (refl, (old_name n, among_names v.files (old_name n) (is_some_there (old_name n) some.0 some.1), refl, refl)))))
      ],
      settled.none_gone (old_name n),
    );
  }

  pub are_rising : AreRising p.logs.items
  are_rising = subst AreRising (sym plan.logs) (logs_rise v.files log_named)

  logged_from : (x : FoundEntry) → Contains xs x → IsLogged v.files x.entry
  logged_from x has = (let r = read.from_logs is_told x has in record { name = x.name; entries = r.0; file = r.1; member = r.2 })

  pub all_logged : AllLogged v.files p.jobs.items
  all_logged j e has member =
      let q = place (keys v.files) xs ss p plan j has in
      let r = plan.parts.from_logs e (entry_at (keys v.files) xs ss p plan j q.0 e q.1 q.2 member).0 in
      subst (λ (d : Entry). IsLogged v.files d) r.2 (logged_from r.0 r.1)

  -- the stores that count in the files are those of the plan
  pub counting_in : (r : ℕ) → AreCountingOf v.files r ss
  counting_in r = counting_of told is_told v.files (keys v.files) xs every ss (contents_of told v.files (keys v.files) (keys v.files) xs every read) counts r (λ m store region here. among_names v.files m here)

  -- and what is flushed of a family is what the plan says
  pub flushed_now : (r : ℕ) → r ≤ 64 → (f : List ℕ) → IsFlushed v.files r f (flushed_at p.flushed.items r f)
  flushed_now r low f =
      let own : IsGreatest (GoesTo ss r f) (flushed_at p.flushed.items r f) = goes_at ss p.flushed.items plan.are_flushed r f low in
      greatest_same (GoesTo ss r f) (FlushesTo v.files r f) (flushed_at p.flushed.items r f) own (λ n goes. goes_flushes v.files r ss (counting_in r) f n goes) (λ n flushes. flushes_goes v.files r ss (counting_in r) f n flushes)

  flushed_cases : (e : Entry) → IsEntry e → IsAbove p.flushed.items e ⊎ IsFlushedEntry v.files e
  flushed_cases e valid = elim (above_cases (flushed_at p.flushed.items e.region) e) as (λ _. IsAbove p.flushed.items e ⊎ IsFlushedEntry v.files e) [
    | inl above ↦ inl above
    | inr low ↦ inr (low_flushed v.files e (flushed_at p.flushed.items e.region) (flushed_now e.region valid.region) valid.number_given low)
  ]

  pub first_job : (js : List EditsJob) → 0 < length js → EditsJob
  first_job [] lt = absurd (omega (arith, lt))
  first_job (j ∷ js) lt = j

  abbrev pub some_job : EditsJob
  some_job = first_job p.jobs.items (omega (arith, plan.jobs.long))

  pub logs_covered : LogsCovered v.files p.jobs.items p.logs.items
  logs_covered n has =
      let r = read.logs is_told (log_name n) (log_there n has) (inl refl) in
      (r.0, r.1.ended, record { bytes = r.1.bytes; there = r.1.there; text = r.1.text }, λ e member. one r.0 r.1 r.2 e member)
    where
      one : (l : List Entry) → IsLogFile v.files (log_name n) l → ((e : Entry) → Contains l e → Contains xs (place_in (log_name n) e)) → (e : Entry) → Contains l e
          → ((j : EditsJob) × Contains p.jobs.items j × Contains j.entries.items e) ⊎ IsFlushedEntry v.files e
      one l file all e member = elim (flushed_cases e (valid_entry v.files (log_name n) l e file member)) as (λ _. ((j : EditsJob) × Contains p.jobs.items j × Contains j.entries.items e) ⊎ IsFlushedEntry v.files e) [
        | inl above ↦
            let q = plan.jobs.all e (plan.parts.all_logged (place_in (log_name n) e) (all e member) refl above) in
            inl (get_or p.jobs.items q.0 some_job, Contains-get_or p.jobs.items q.0 some_job (omega (arith, q.1, plan.jobs.long)), q.2 some_job)
        | inr low ↦ inr low
      ]

  -- what isn't flushed in the files is above the numbers of the plan
  pub is_above : (e : Entry) → IsEntry e → IsUnflushedEntry v.files e → IsAbove p.flushed.items e
  is_above e valid = unflushed_above v.files e (flushed_at p.flushed.items e.region) (flushed_now e.region valid.region) valid.number_given

  -- the entries that are copied stand in logs and aren't flushed
  pub logged_each : (e : Entry) → Contains plan.logged e → IsInLog v.files e × IsUnflushedEntry v.files e
  logged_each e has =
      let r = plan.parts.from_logs e has in
      let f = read.from_logs is_told r.0 r.1 in
      let member : Contains f.0 e = subst (λ (d : Entry). Contains f.0 d) r.2 f.2 in
      let valid = valid_entry v.files r.0.name f.0 e f.1 member in
      ((r.0.name, f.0, r.3, f.1, member), above_unflushed v.files e (flushed_at p.flushed.items e.region) (flushed_now e.region valid.region) valid.number_given r.4)

  -- and are all such
  pub logged_all : (e : Entry) (name : Name) (l : List Entry) → name.kind ≡ kinds.Log → IsLogFile v.files name l → Contains l e → IsUnflushedEntry v.files e → Contains plan.logged e
  logged_all e name l log file member above =
      let valid = valid_entry v.files name l e file member in
      let r = read.logs is_told name (among_names v.files name (is_some_there name file.bytes file.there)) file.kind in
      let there = r.2 e (subst (λ (k : List Entry). Contains k e) (one_list v.files name l r.0 file r.1) member) in
      plan.parts.all_logged (place_in name e) there log (is_above e valid above)

  pub counted : Counts v.files p.entries
  counted = record {
    entries = plan.logged;
    count = sym plan.count;
    apart = λ i j d less lt same. apart_by (get_or plan.logged i d) (get_or plan.logged j d) (plan.parts.logged_rise i j d less lt) same;
    each = logged_each;
    all = logged_all;
  }
    where
      apart_by : (d e : Entry) → IsBefore d e → d ≡ e → ⊥
      apart_by d e (inl less) same = omega (arith, less, ap (λ (x : Entry). x.region) same)
      apart_by d e (inr (region, less)) same = omega (arith, less, ap (λ (x : Entry). x.number) same)

  module _ (w : DiskView) (others : (m : Name) → IsNoJob p.jobs.items m → IsOther p.logs.items m → content w.files m ≡ content v.files m)
      (gone : (n : ℕ) → Contains p.logs.items n → IsAbsent w.files (log_name n)) where
    pub no_log_left : (m : Name) → m.kind ≡ kinds.Log → content w.files m ≡ None
    no_log_left m log = elim (present_cases v.files m) as (λ _. content w.files m ≡ None) [
      | inl none ↦ others m (λ j has some is. absurd (cc (sym log ∙ ap (λ (x : Name). x.kind) is ∙ kind_of (keys v.files) xs ss p plan j has)))
          (λ n has. ((λ is. there_of v.files (log_name n) (log_there n has) (ap (λ (x : Name). content v.files x) (sym is) ∙ none)), λ is. absurd (cc (sym log ∙ ap (λ (x : Name). x.kind) is)))) ∙ none
      | inr some ↦
          let has = among_names v.files m (is_some_there m some.0 some.1) in
          ap (λ (x : Name). content w.files x) (log_named m has log) ∙ gone m.number (subst (λ (l : List ℕ). Contains l m.number) (sym plan.logs) (has_log (keys v.files) m has log))
    ]

    pub olds_left : ((n : ℕ) → Contains p.logs.items n → content w.files (old_name n) ≡ content v.files (log_name n)) → LogsAreOld v.files w.files
    olds_left moved = record {
      moved = λ n here. moved n (subst (λ (l : List ℕ). Contains l n) (sym plan.logs) (has_log (keys v.files) (log_name n) (among_names v.files (log_name n) here) refl));
      stay = λ m old here. others m (λ j has some is. absurd (cc (sym old ∙ ap (λ (x : Name). x.kind) is ∙ kind_of (keys v.files) xs ss p plan j has)))
          (λ n has. ((λ is. absurd (cc (sym old ∙ ap (λ (x : Name). x.kind) is))), λ is. here (ap (λ (x : Name). content v.files x) is ∙ (are_free.old n has).0)));
    }

    pub small_left : (m : Name) → IsPresent w.files m → m.number ≤ 2 ^ 63
    small_left m here = elim (cases_lt (2 ^ 63) m.number) as (λ _. m.number ≤ 2 ^ 63) [
      | inr low ↦ low
      | inl high ↦ absurd (big high)
    ]
      where
        log_small : (n : ℕ) → Contains p.logs.items n → n ≤ 2 ^ 62
        log_small n has = small (log_name n) (there_of v.files (log_name n) (log_there n has))

        big : 2 ^ 63 < m.number → ⊥
        big high =
            let same = others m (λ j has some is. (let n = number_of (keys v.files) xs ss p plan j has in let k : m.number ≡ j.name.number = ap (λ (x : Name). x.number) is in omega (arith, high, n, k, plan.low)))
            (λ n has. ((λ is. (let k : m.number ≡ n = ap (λ (x : Name). x.number) is in let l = log_small n has in omega (arith, high, k, l))), λ is. (let k : m.number ≡ n = ap (λ (x : Name). x.number) is in let l = log_small n has in omega (arith, high, k, l)))) in
            elim (present_cases v.files m) as (λ _. ⊥) [
              | inl none ↦ here (same ∙ none)
              | inr some ↦ (let l = small m (is_some_there m some.0 some.1) in omega (arith, high, l))
            ]

    -- each edits file is of a region
    pub given_left : (m : Name) → m.kind ≡ kinds.Edits → IsPresent w.files m → 1 ≤ m.region
    given_left m edits here = elim (cases_eq m.region 0) as (λ _. 1 ≤ m.region) [
      | inr more ↦ omega (arith, more)
      | inl zero ↦ absurd (none zero)
    ]
      where
        none : m.region ≡ 0 → ⊥
        none zero =
            let same = others m (λ j has some is. (
            let long = plan.jobs.long in
            let lt : has.0 < 64 = omega (arith, has.1, long) in
            let region : m.region ≡ has.0 + 1 = ap (λ (x : Name). x.region) (is ∙ name_at (keys v.files) xs ss p plan j has.0 lt has.2) in
            omega (arith, region, zero)))
            (λ n has. ((λ is. absurd (cc (sym edits ∙ ap (λ (x : Name). x.kind) is))), λ is. absurd (cc (sym edits ∙ ap (λ (x : Name). x.kind) is)))) in
            elim (present_cases v.files m) as (λ _. ⊥) [
              | inl gone_before ↦ here (same ∙ gone_before)
              | inr some ↦ read.good m (among_names v.files m (is_some_there m some.0 some.1)) (inr (inl (inr edits, inl zero)))
            ]

    pub stores_left : StoresStand v.files w.files
    stores_left m store =
        others m (λ j has some is. absurd (cc (sym store ∙ ap (λ (x : Name). x.kind) is ∙ kind_of (keys v.files) xs ss p plan j has)))
        (λ n has. ((λ is. absurd (cc (sym store ∙ ap (λ (x : Name). x.kind) is))), λ is. absurd (cc (sym store ∙ ap (λ (x : Name). x.kind) is))))

-- files that recover to what one base does recover alike
pub alike_between : (base I J : Files) → AllAlike base I → AllAlike base J → AllAlike I J
alike_between base I J first second r = record {
  fit = (second r).fit;
  content = λ v p. (λ h. ((second r).content v p).0 (((first r).content v p).1 h), λ h. ((first r).content v p).0 (((second r).content v p).1 h));
  last = λ n. (λ h. ((second r).last n).0 (((first r).last n).1 h), λ h. ((first r).last n).0 (((second r).last n).1 h));
}

pub held_here : (base : Files) (w : DiskView) → IsTrueDisk w → IsHeld base w → IsHeld w.files w
held_here base w true_disk held = record {
  stores = held.stores;
  there = held.there;
  alike = λ J now. alike_between base w.files J (held.alike w.files true_disk.reads) (held.alike J now);
  unmoved = held.unmoved;
  gone = held.gone;
}

module _ (told : Type 0) (files : Files) (all : List Name) (xs : List FoundEntry) (ss : List FoundStore) (read : AreRead told files all all xs ss) where
  pub numbers_low : (m : Name) → Contains all m → m.number ≤ 2 ^ 62
  numbers_low m has = elim (cases_lt (2 ^ 62) m.number) as (λ _. m.number ≤ 2 ^ 62) [ inl high ↦ absurd (read.good m has (inl high)) | inr low ↦ low ]

  pub regions_low : (x : FoundStore) → Contains ss x → x.name.region ≤ 64
  regions_low x has = elim (cases_lt 64 x.name.region) as (λ _. x.name.region ≤ 64) [
    | inl high ↦ (let r = (read.each x has).1 in absurd (read.good r.0 r.1 (inr (inl (inl r.3, inr (subst (λ (n : Name). 64 < n.region) r.2 high))))))
    | inr low ↦ low
  ]
