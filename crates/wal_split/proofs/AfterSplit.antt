-- What a split leaves, told from its plan.
use Rattle.std.proofs.Common.{◌≡◌, ◌≢◌, ◌⊎◌, inl, inr, ℕ, ◌+◌, ◌-◌, ◌<◌, ◌≤◌, List, [], ◌∷◌, get_or, Contains, None, refl, sym, ap, ◌∙◌, subst, arith}
use Rattle.std.specs.Prelude.{AllPairs}
use Rattle.std.specs.FinMap.{keys}
use Rattle.std.specs.declared.cmp.Ordering.TheVariants.{Less}
use Rattle.std.proofs.lemmas.Bool.{cases_eq, cases_lt}
use Rattle.std.proofs.lemmas.List.{get_or_default}
use Rattle.std.proofs.lemmas.List.Kept.{AllPairs-filter}
use Rattle.std.proofs.lemmas.List.Elements.{Contains-get_or}
use Rattle.log_model.specs.declared.name.Name.{Name}
use Rattle.log_model.specs.declared.name.NameKind.TheVariants as kinds
use Rattle.log_model.specs.Entry.{Entry}
use Rattle.log_model.specs.StoreText.{Store}
use Rattle.log_model.specs.Files.{Files, content, name_cmp, IsPresent, IsLogFile, IsLogged}
use Rattle.log_model.specs.Recovered.{IsCounting, is_of}
use Rattle.disk_images.specs.Crash.{DiskView}
use Rattle.disk_images.specs.Calls.{IsTrueDisk}
use Rattle.disk_images.specs.Settled.{IsSettled}
use Rattle.disk_images.proofs.Settled.{among_names, there_of, present_cases}
use Rattle.recovery_laws.specs.Change.{HasText}
use Rattle.recovery_laws.proofs.Stores.{counts_kept, flushes_kept}
use Rattle.found_files.specs.declared.found.FoundEntry.{FoundEntry}
use Rattle.found_files.specs.declared.found.FoundStore.{FoundStore}
use Rattle.found_files.specs.Found.{AreRead, store_of, place_in}
use Rattle.found_files.specs.Counting.{AreCounting, AreCountingOf}
use Rattle.found_files.proofs.Files.{one_list}
use Rattle.found_files.proofs.Placing.{first_in}
use Rattle.found_files.proofs.NameOrder.{names_rise}
use Rattle.wal_split.specs.declared.job.EditsJob.{EditsJob}
use Rattle.wal_split.specs.declared.split_files.SplitFiles.{SplitFiles}
use Rattle.wal_split.specs.Unflushed.{IsAbove, IsBefore, IsUnflushedEntry}
use Rattle.wal_split.specs.Grouped.{edits_name}
use Rattle.wal_split.specs.Jobs.{IsNoJob}
use Rattle.wal_split.specs.Logs.{IsOther, log_name}
use Rattle.wal_split.specs.Planned.{IsPlan}
use Rattle.wal_split.specs.Left.{IsInRange, AreLeft, AtMostOneHigher, job_at}
use Rattle.wal_split.specs.Copies.{IsNextEdits, IsInLog, AreCopied, EditsCopied}
use Rattle.wal_split.proofs.Plans.{name_at, number_of, valid_entry, is_some_there, log_there, some_job, is_above, counting_in, logged_each, logged_all, no_log_left, small_left, stores_left}
use Rattle.wal_split.proofs.Turning.{edits_other}
use Rattle.wal_split.proofs.Writing.{list_cases}

pub in_range : (told : Type 0) (files : Files) (x : SplitFiles) (xs : List FoundEntry) (every : List FoundStore) → AreRead told files x.names x.names xs every → AreCounting every x.stores.items → IsPlan x.names xs x.stores.items x.plan → IsInRange x
in_range told files x xs every read counts plan = record {
  number = plan.number;
  low = plan.low;
  above = plan.above;
  long = plan.jobs.long;
  named = plan.jobs.names;
  pending = λ k d e lt has. (let r = plan.jobs.each k d e lt has in let f = plan.parts.from_logs e r.0 in (r.1, r.2, f.4));
  kept = λ e has. (let f = plan.parts.from_edits e has in f.4);
  flushed = plan.are_flushed;
  stores = λ y has. (let r = read.each y (counts.each y has).0 in (r.0, subst (λ (n : Name). Contains x.names n) (sym r.1.2) r.1.1, ap (λ (n : Name). n.kind) r.1.2 ∙ r.1.3));
  good = read.good;
}

first_of : {A : Type 0} (xs : List A) → xs ≢ [] → (x : A) × Contains xs x
first_of [] some = absurd (some refl)
first_of (x ∷ xs) some = (x, first_in x xs)

-- entries of one region in order have rising numbers
number_rise : (r : ℕ) (es : List Entry) → ((e : Entry) → Contains es e → e.region ≡ r) → AllPairs IsBefore es → AllPairs (λ a b. a.number < b.number) es
number_rise r es of rise i j d less lt =
    let one = of (get_or es i d) (Contains-get_or es i d (omega (arith, less, lt))) in
    let two = of (get_or es j d) (Contains-get_or es j d lt) in
    elim (rise i j d less lt) as (λ _. (get_or es i d).number < (get_or es j d).number) [
      | inl lower ↦ absurd (omega (arith, lower, one, two))
      | inr same ↦ same.1
    ]

module _ (told : Type 0) (is_told : told) (v : DiskView) (true_disk : IsTrueDisk v) (settled : IsSettled v) (x : SplitFiles) (xs : List FoundEntry) (every : List FoundStore)
    (read : AreRead told v.files (keys v.files) (keys v.files) xs every) (counts : AreCounting every x.stores.items) (plan : IsPlan (keys v.files) xs x.stores.items x.plan) (named : x.names ≡ keys v.files)
    (w : DiskView) (others : (m : Name) → IsNoJob x.plan.jobs.items m → IsOther x.plan.logs.items m → content w.files m ≡ content v.files m)
    (gone : (n : ℕ) → Contains x.plan.logs.items n → content w.files (log_name n) ≡ None)
    (written : (j : EditsJob) (e : Entry) → Contains x.plan.jobs.items j → Contains j.entries.items e → HasText j.name j.entries.items None (content w.files j.name)) where
  abbrev jobs : List EditsJob
  jobs = x.plan.jobs.items

  abbrev job : EditsJob
  job = some_job told is_told v true_disk settled xs every x.stores.items x.plan read counts plan

  among : (m : Name) → IsPresent v.files m → Contains x.names m
  among m here = subst (λ (l : List Name). Contains l m) (sym named) (among_names v.files m here)

  was_there : (m : Name) → Contains x.names m → Contains (keys v.files) m
  was_there m has = subst (λ (l : List Name). Contains l m) named has

  stores_same : (m : Name) → m.kind ≡ kinds.Store → content w.files m ≡ content v.files m
  stores_same = stores_left told is_told v true_disk settled xs every x.stores.items x.plan read counts plan w others gone

  none_logged : (m : Name) → m.kind ≡ kinds.Log → content w.files m ≡ None
  none_logged = no_log_left told is_told v true_disk settled xs every x.stores.items x.plan read counts plan w others gone

  -- an edits file of before is as it was
  edits_same : (m : Name) → Contains (keys v.files) m → m.kind ≡ kinds.Edits → content w.files m ≡ content v.files m
  edits_same m has edits =
      others m (λ j has_job some is. (
      let low = plan.above m has (λ store. absurd (cc (sym store ∙ edits))) in
      let number = number_of (keys v.files) xs x.stores.items x.plan plan j has_job in
      let same : m.number ≡ j.name.number = ap (λ (n : Name). n.number) is in
      omega (arith, low, number, same)))
      (edits_other x.plan.logs.items m edits)

  log_now : (m : Name) (l : List Entry) → Contains (keys v.files) m → m.kind ≡ kinds.Edits → IsLogFile v.files m l → IsLogFile w.files m l
  log_now m l has edits f = record { kind = f.kind; bytes = f.bytes; there = edits_same m has edits ∙ f.there; ended = f.ended; text = f.text }

  log_before : (m : Name) (l : List Entry) → Contains (keys v.files) m → m.kind ≡ kinds.Edits → IsLogFile w.files m l → IsLogFile v.files m l
  log_before m l has edits f = record { kind = f.kind; bytes = f.bytes; there = sym (edits_same m has edits) ∙ f.there; ended = f.ended; text = f.text }

  counting_now : (r : ℕ) → AreCountingOf v.files r x.stores.items
  counting_now = counting_in told is_told v true_disk settled xs every x.stores.items x.plan read counts plan

  all_found : (m : Name) (s : Store) → IsCounting w.files m.region m s → (y : FoundStore) × Contains x.stores.items y × (y.name ≡ m) × (s ≡ store_of y)
  all_found m s c = (counting_now m.region).all m s (counts_kept w.files v.files (λ n store. sym (stores_same n store)) m.region m s c)

  kept_now : (e : Entry) → Contains x.plan.kept.items e → (m : Name) × (l : List Entry) × (m.kind ≡ kinds.Edits) × IsLogFile w.files m l × Contains l e
  kept_now e has =
      let r = plan.parts.from_edits e has in
      let f = read.from_logs is_told r.0 r.1 in
      elim f.1.kind as (λ _. (m : Name) × (l : List Entry) × (m.kind ≡ kinds.Edits) × IsLogFile w.files m l × Contains l e) [
        | inl log ↦ absurd (r.3 log)
        | inr edits ↦ (
          r.0.name,
          f.0,
          edits,
          log_now r.0.name f.0 (among_names v.files r.0.name (is_some_there told is_told v true_disk settled xs every x.stores.items x.plan read counts plan r.0.name f.1.bytes f.1.there)) edits f.1,
          subst (λ (d : Entry). Contains f.0 d) r.2 f.2,
        )
      ]

  -- an edits file that is new is one of those with entries
  job_of : (m : Name) → m.kind ≡ kinds.Edits → IsPresent w.files m → content v.files m ≡ None → (k : ℕ) × (k < 64) × ((d : EditsJob) → (m ≡ (get_or jobs k d).name) × ((get_or jobs k d).entries.items ≢ []))
  job_of m edits here none = go (cases_eq m.number plan.number) (cases_eq m.region 0) (cases_lt 64 m.region)
    where
      Job : Type 0
      Job = (k : ℕ) × (k < 64) × ((d : EditsJob) → (m ≡ (get_or jobs k d).name) × ((get_or jobs k d).entries.items ≢ []))

      no_job : IsNoJob jobs m → ⊥
      no_job apart = here (others m apart (edits_other x.plan.logs.items m edits) ∙ none)

      named_at : (j : EditsJob) (has : Contains jobs j) → m ≡ j.name → (m.region ≡ has.0 + 1) × (m.number ≡ plan.number) × (has.0 < 64)
      named_at j has is =
          let long = plan.jobs.long in
          let lt : has.0 < 64 = omega (arith, has.1, long) in
          let n : m ≡ edits_name (has.0 + 1) plan.number = is ∙ name_at (keys v.files) xs x.stores.items x.plan plan j has.0 lt has.2 in
          (ap (λ (y : Name). y.region) n, ap (λ (y : Name). y.number) n, lt)

      at_place : m.number ≡ plan.number → m.region ≢ 0 → m.region ≤ 64 → Job
      at_place number given low =
          let k : ℕ = m.region - 1 in
          let lt : k < 64 = omega (arith, given, low) in
          let long = plan.jobs.long in
          let region : m.region ≡ k + 1 = omega (arith, given) in
          let is : m ≡ edits_name (k + 1) plan.number = λ i. record { kind = edits i; region = region i; number = number i } in
          elim (list_cases (get_or jobs k job).entries.items) as (λ _. Job) [
            | inl empty ↦ absurd (no_job (λ j has some same. (
                let a = named_at j has same in
                let at : has.0 ≡ k = omega (arith, a.0, region) in
                let here_job : get_or jobs k job ≡ j = get_or_default jobs k job j (omega (arith, lt, long)) ∙ ap (λ (i : ℕ). get_or jobs i j) (sym at) ∙ has.2 in
                some (ap (λ (y : EditsJob). y.entries.items) (sym here_job) ∙ empty))))
            | inr some ↦ (
              k,
              lt,
              λ d. (
                  let same : get_or jobs k job ≡ get_or jobs k d = get_or_default jobs k job d (omega (arith, lt, long)) in
                  (is ∙ sym (plan.jobs.names k d lt), λ empty. some (ap (λ (y : EditsJob). y.entries.items) same ∙ empty))),
            )
          ]

      go : (m.number ≡ plan.number) ⊎ (m.number ≢ plan.number) → (m.region ≡ 0) ⊎ (m.region ≢ 0) → (64 < m.region) ⊎ (m.region ≤ 64) → Job
      go (inr apart) b c = absurd (no_job (λ j has some is. apart (let a = named_at j has is in a.1)))
      go (inl number) (inl zero) c = absurd (no_job (λ j has some is. (let a = named_at j has is in omega (arith, a.0, zero))))
      go (inl number) (inr given) (inl high) = absurd (no_job (λ j has some is. (let a = named_at j has is in omega (arith, a.0, a.2, high))))
      go (inl number) (inr given) (inr low) = at_place number given low

  all_left : (e : Entry) → IsLogged w.files e → IsUnflushedEntry w.files e → ((k : ℕ) × (k < 64) × ((d : EditsJob) → Contains (get_or jobs k d).entries.items e)) ⊎ Contains x.plan.kept.items e
  all_left e logged unflushed = elim logged.file.kind as (λ _. Left) [
    | inl log ↦ absurd (cc (sym (none_logged logged.name log) ∙ logged.file.there))
    | inr edits ↦ elim (present_cases v.files logged.name) as (λ _. Left) [
      | inr some ↦ old edits (among_names v.files logged.name (is_some_there told is_told v true_disk settled xs every x.stores.items x.plan read counts plan logged.name some.0 some.1))
      | inl none ↦ new edits (job_of logged.name edits (λ gone_now. absurd (cc (sym gone_now ∙ logged.file.there))) none)
    ]
  ]
    where
      Left : Type 0
      Left = ((k : ℕ) × (k < 64) × ((d : EditsJob) → Contains (get_or jobs k d).entries.items e)) ⊎ Contains x.plan.kept.items e

      old : logged.name.kind ≡ kinds.Edits → Contains (keys v.files) logged.name → Left
      old edits has =
          let f = log_before logged.name logged.entries has edits logged.file in
          let r = read.logs is_told logged.name has (inr edits) in
          let member : Contains r.0 e = subst (λ (l : List Entry). Contains l e) (one_list v.files logged.name logged.entries r.0 f r.1) logged.member in
          let valid = valid_entry v.files logged.name logged.entries e f logged.member in
          let abv : IsAbove x.plan.flushed.items e = is_above told is_told v true_disk settled xs every x.stores.items x.plan read counts plan e valid (unflushed.0, unflushed.1, λ n g. unflushed.2 n (flushes_kept v.files w.files stores_same e.region unflushed.0 n g)) in
          elim (plan.parts.all (place_in logged.name e) (r.2 e member) abv) as (λ _. Left) [
            | inl in_log ↦ inl (plan.jobs.all e in_log)
            | inr in_edits ↦ inr in_edits
          ]

      new : logged.name.kind ≡ kinds.Edits → (k : ℕ) × (k < 64) × ((d : EditsJob) → (logged.name ≡ (get_or jobs k d).name) × ((get_or jobs k d).entries.items ≢ [])) → Left
      new edits (k, lt, both) =
          let long = plan.jobs.long in
          let j : EditsJob = get_or jobs k job in
          let some = first_of j.entries.items (both job).1 in
          let text = written j some.0 (Contains-get_or jobs k job (omega (arith, lt, long))) some.1 in
          let file : IsLogFile w.files j.name j.entries.items = record { kind = inr (ap (λ (n : Name). n.kind) (sym (both job).0) ∙ edits); bytes = text.bytes; there = text.there; ended = None; text = text.text } in
          let mine : IsLogFile w.files j.name logged.entries = subst (λ (n : Name). IsLogFile w.files n logged.entries) (both job).0 logged.file in
          let member : Contains j.entries.items e = subst (λ (l : List Entry). Contains l e) (one_list w.files j.name logged.entries j.entries.items mine file) logged.member in
          inl (k, lt, λ d. subst (λ (y : EditsJob). Contains y.entries.items e) (get_or_default jobs k job d (omega (arith, lt, long))) member)

  pub are_left : AreLeft w.files x
  are_left = record {
    stores = λ y has. counts_kept v.files w.files stores_same y.name.region y.name (store_of y) ((counting_now y.name.region).each y has refl);
    all_stores = all_found;
    rising = counts.rising (read.rising is_told);
    store_names = λ m store here. among m (λ none. here (stores_same m store ∙ none));
    stores_stay = λ m store has none. there_of v.files m (was_there m has) (sym (stores_same m store) ∙ none);
    names_rise = subst (λ (l : List Name). AllPairs (λ a b. name_cmp a b ≡ Less) l) (sym named) (names_rise v.files);
    written = λ k d e lt has. (let long = plan.jobs.long in written (get_or jobs k d) e (Contains-get_or jobs k d (omega (arith, lt, long))) has);
    jobs_rise = λ k d lt. number_rise (k + 1) (get_or jobs k d).entries.items (λ e has. (let r = plan.jobs.each k d e lt has in r.1))
        (subst (λ (l : List Entry). AllPairs IsBefore l) (sym (plan.jobs.are k d lt)) (AllPairs-filter IsBefore (is_of (k + 1)) plan.logged plan.parts.logged_rise));
    kept = kept_now;
    kept_rise = plan.parts.kept_rise;
    apart = λ k d a b lt has_a has_b region. (let r = plan.jobs.each k d a lt has_a in plan.parts.apart a b r.0 has_b region);
    no_logs = none_logged;
    edits = λ m has edits. (let k = was_there m has in let r = read.logs is_told m k (inr edits) in (r.0, log_now m r.0 k edits r.1));
    all_edits = λ m edits here. elim (present_cases v.files m) as (λ _. Contains x.names m ⊎ ((k : ℕ) × (k < 64) × ((d : EditsJob) → (m ≡ (job_at x k d).name) × ((job_at x k d).entries.items ≢ [])))) [
      | inr some ↦ inl (among m (is_some_there told is_told v true_disk settled xs every x.stores.items x.plan read counts plan m some.0 some.1))
      | inl none ↦ inr (job_of m edits here none)
    ];
    all = all_left;
    small = small_left told is_told v true_disk settled xs every x.stores.items x.plan read counts plan w others gone;
  }

  -- ---- the edits files that are new

  next_edits : IsNextEdits v.files plan.number
  next_edits = record {
    given = elim plan.next as (λ _. 1 ≤ plan.number) [ inl one ↦ omega (arith, one) | inr (m, has, other, is) ↦ omega (arith, is) ];
    above = λ m other here. plan.above m (among_names v.files m here) other;
    least = λ k bound. elim plan.next as (λ _. plan.number ≤ k + 1) [
      | inl one ↦ omega (arith, one)
      | inr (m, has, other, is) ↦ (let low = bound m other (there_of v.files m has) in omega (arith, is, low))
    ];
  }

  -- one that has an entry is there
  job_file : (k : ℕ) → k < 64 → (e : Entry) → Contains (get_or jobs k job).entries.items e → IsLogFile w.files (edits_name (k + 1) plan.number) (get_or jobs k job).entries.items
  job_file k lt e has =
      let long = plan.jobs.long in
      let j : EditsJob = get_or jobs k job in
      let named : j.name ≡ edits_name (k + 1) plan.number = plan.jobs.names k job lt in
      let text = written j e (Contains-get_or jobs k job (omega (arith, lt, long))) has in
      subst (λ (n : Name). IsLogFile w.files n j.entries.items) named (record { kind = inr (ap (λ (n : Name). n.kind) named); bytes = text.bytes; there = text.there; ended = None; text = text.text })

  job_copied : (k : ℕ) → k < 64 → AreCopied v.files (k + 1) (get_or jobs k job).entries.items
  job_copied k lt = record {
    each = λ e has. (let r = plan.jobs.each k job e lt has in let l = logged_each told is_told v true_disk settled xs every x.stores.items x.plan read counts plan e r.0 in (l.0, l.1, r.1));
    rise = are_left.jobs_rise k job lt;
  }

  new_edits : (m : Name) → (k : ℕ) × (k < 64) × ((d : EditsJob) → (m ≡ (get_or jobs k d).name) × ((get_or jobs k d).entries.items ≢ []))
      → (m.number ≡ plan.number) × ((es : List Entry) × IsLogFile w.files m es × AreCopied v.files m.region es)
  new_edits m (k, lt, both) =
      let j : EditsJob = get_or jobs k job in
      let some = first_of j.entries.items (both job).1 in
      let named : m ≡ edits_name (k + 1) plan.number = (both job).0 ∙ plan.jobs.names k job lt in (
        ap (λ (n : Name). n.number) named,
        (
          j.entries.items,
          subst (λ (n : Name). IsLogFile w.files n j.entries.items) (sym named) (job_file k lt some.0 some.1),
          subst (λ (n : Name). AreCopied v.files n.region j.entries.items) (sym named) (job_copied k lt),
        ),
      )

  all_copied : (e : Entry) → IsInLog v.files e → IsUnflushedEntry v.files e → (es : List Entry) × IsLogFile w.files (edits_name e.region plan.number) es × Contains es e
  all_copied e (name, l, log, file, member) unflushed =
      let q = plan.jobs.all e (logged_all told is_told v true_disk settled xs every x.stores.items x.plan read counts plan e name l log file member unflushed) in
      let r = plan.jobs.each q.0 job e q.1 (q.2 job) in (
        (get_or jobs q.0 job).entries.items,
        subst (λ (n : ℕ). IsLogFile w.files (edits_name n plan.number) (get_or jobs q.0 job).entries.items) (sym r.1) (job_file q.0 q.1 e (q.2 job)),
        q.2 job,
      )

  pub edits_copied : EditsCopied v.files w.files
  edits_copied = record {
    number = plan.number;
    next = next_edits;
    came = λ m edits none here. new_edits m (job_of m edits here none);
    all = all_copied;
    stay = λ m edits here. edits_same m (among_names v.files m here) edits;
  }

  pub one_higher : AtMostOneHigher v.files w.files
  one_higher n bound m here = elim (cases_lt (n + 1) m.number) as (λ _. m.number ≤ n + 1) [
    | inr low ↦ low
    | inl high ↦ absurd (big high)
  ]
    where
      log_small : (k : ℕ) → Contains x.plan.logs.items k → k ≤ n
      log_small k has = bound (log_name k) (there_of v.files (log_name k) (log_there told is_told v true_disk settled xs every x.stores.items x.plan read counts plan k has))

      new_small : plan.number ≤ n + 1
      new_small = elim plan.next as (λ _. plan.number ≤ n + 1) [
        | inl one ↦ omega (arith, one)
        | inr (k, has, other, is) ↦ (let low = bound k (there_of v.files k has) in omega (arith, is, low))
      ]

      big : n + 1 < m.number → ⊥
      big high =
          let same = others m (λ j has some is. (let a = number_of (keys v.files) xs x.stores.items x.plan plan j has in let k : m.number ≡ j.name.number = ap (λ (y : Name). y.number) is in let l = new_small in omega (arith, high, a, k, l)))
          (λ i has. ((λ is. (let k : m.number ≡ i = ap (λ (y : Name). y.number) is in let l = log_small i has in omega (arith, high, k, l))), λ is. (let k : m.number ≡ i = ap (λ (y : Name). y.number) is in let l = log_small i has in omega (arith, high, k, l)))) in
          elim (present_cases v.files m) as (λ _. ⊥) [
            | inl none ↦ here (same ∙ none)
            | inr some ↦ (let l = bound m (is_some_there told is_told v true_disk settled xs every x.stores.items x.plan read counts plan m some.0 some.1) in omega (arith, high, l))
          ]
