-- What beginning the first log leaves of a store that was opened.
use Rattle.std.proofs.Common.{◌≡◌, ◌≢◌, ◌⊎◌, inl, inr, ℕ, ◌+◌, ◌<◌, ◌≤◌, Bool, true, cond, List, [], ◌∷◌, ◌++◌, map, Contains, get_or, length, take, Option, Some, None, refl, sym, ap, ◌∙◌, subst, arith}
use Rattle.std.specs.FinMap.{keys, entries, get-entries, find}
use Rattle.std.specs.Option.{is_some}
use Rattle.std.specs.Ordering.{eq_by_cmp, is_eq}
use Rattle.std.specs.declared.cmp.Ordering.{Ordering}
use Rattle.std.specs.declared.cmp.Ordering.TheVariants.{Less, Equal, Greater}
use Rattle.std.proofs.lemmas.Bool.{cases_Bool, cases_lt}
use Rattle.std.proofs.lemmas.List.{take_more, take_all}
use Rattle.std.proofs.lemmas.List.Elements.{Contains-append_left, Contains-append_right, Contains-push}
use Rattle.log_model.specs.declared.name.Name.{Name}
use Rattle.log_model.specs.declared.name.NameKind.{NameKind}
use Rattle.log_model.specs.declared.name.NameKind.TheVariants as kinds
use Rattle.log_model.specs.Files.{Files, name_cmp, content, SameBut, IsAbsent, IsPresent}
use Rattle.log_model.specs.Recovered.{IsGreatest}
use Rattle.log_model.proofs.NameLaws.{name_cmp_exact}
use Rattle.disk_images.specs.Crash.{DiskView, IsImageNow, Throughout, OnlyAt}
use Rattle.disk_images.specs.Calls.{IsTrueDisk, Looks}
use Rattle.disk_images.specs.OneFile.{Touches}
use Rattle.disk_images.proofs.Moments.{weaker, joined, at_end, at_once, in_one_call, more_time}
use Rattle.recovery_laws.specs.Change.{HasText, HasEntries, RecoversSome}
use Rattle.recovery_laws.specs.Kept.{IsLike, IsOrderly, start_of}
use Rattle.recovery_laws.proofs.Names.{name_cases}
use Rattle.recovery_laws.proofs.Logs.{grown}
use Rattle.recovery_laws.proofs.Likes.{none_fresh, like_same, some_alike}
use Rattle.recovery_laws.proofs.Started.{started, started_orderly}
use Rattle.log_file.specs.Open.{OpenLog, IsOpen, IsStaged}
use Rattle.log_file.proofs.Committed.{rest_has}
use Rattle.log_ledger.specs.declared.base.RegionBase.{RegionBase}
use Rattle.log_ledger.specs.Bases.{AreRegions, AreNumbersOf}
use Rattle.log_ledger.specs.History.{ClosedLog, started_in}
use Rattle.log_device.specs.Bears.{Bears}
use Rattle.log_device.specs.Keeps.{Keeps, Shows, log_name}
use Rattle.log_device.specs.Opened.{IsOpened, number_by, log_number}
use Rattle.log_device.proofs.Bearing.{bears_log}
use Rattle.log_device.proofs.Lists.{one_more}
use Rattle.log_device.proofs.Disk.{present_before, up_to_but}

-- ---- the names of a disk

is_equal : (r : Ordering) → is_eq r ≡ true → r ≡ Equal
is_equal Less is = absurd (cc is)
is_equal Equal is = refl
is_equal Greater is = absurd (cc is)

key_found : (es : List (Name × List ℕ)) (m : Name) → find name_cmp m es ≢ None → Contains (map (λ e. e.0) es) m
key_found [] m there = absurd (there refl)
key_found (e ∷ es) m there = elim (cases_Bool (eq_by_cmp name_cmp m e.0)) as (λ _. Contains (map (λ e. e.0) (e ∷ es)) m) [
  | inl is ↦ subst (λ (n : Name). Contains (e.0 ∷ map (λ e. e.0) es) n) (sym (name_cmp_exact m e.0 (is_equal (name_cmp m e.0) is))) (Contains-append_left (e.0 ∷ []) (map (λ e. e.0) es) e.0 (Contains-push [] e.0))
  | inr other ↦ Contains-append_right (e.0 ∷ []) (map (λ e. e.0) es) m (key_found es m (λ none. there (ap (λ (b : Bool). cond b (Some e.1) (find name_cmp m es)) other ∙ none)))
]

-- what is there is among the names
pub among_names : (files : Files) (m : Name) → IsPresent files m → Contains (keys files) m
among_names files m there = key_found (entries files) m (λ none. there (get-entries files m ∙ none))

-- ---- the greatest number of a log or of an old log

abbrev pub HasLog : List Name → ℕ → Type 0
HasLog names n = (m : Name) × Contains names m × (log_number m ≡ n)

pub greatest_none : (names : List Name) → IsGreatest (HasLog (take 0 names)) 0
greatest_none names = record { reached = inr refl; bound = λ m has. absurd (omega (arith, has.1.1)) }

pub greatest_same : (names : List Name) (i last : ℕ) (x : Name) → i < length names → log_number (get_or names i x) ≤ last → IsGreatest (HasLog (take i names)) last → IsGreatest (HasLog (take (i + 1) names)) last
greatest_same names i last x there low greatest = subst (λ (l : List Name). IsGreatest (HasLog l) last) (sym (take_more names i x there)) (record {
  reached = elim greatest.reached as (λ _. HasLog (take i names ++ get_or names i x ∷ []) last ⊎ (last ≡ 0)) [
    | inl old ↦ inl (old.0, Contains-append_left (take i names) (get_or names i x ∷ []) old.0 old.1, old.2)
    | inr none ↦ inr none
  ];
  bound = λ m has. elim (one_more (take i names) (get_or names i x) has.0 has.1) as (λ _. m ≤ last) [
    | inl old ↦ greatest.bound m (has.0, old, has.2)
    | inr new ↦ let at : log_number (get_or names i x) ≡ log_number has.0 = ap (λ (y : Name). log_number y) new in omega (arith, at, has.2, low)
  ];
})

pub greatest_new : (names : List Name) (i last : ℕ) (x : Name) → i < length names → last < log_number (get_or names i x) → IsGreatest (HasLog (take i names)) last → IsGreatest (HasLog (take (i + 1) names)) (log_number (get_or names i x))
greatest_new names i last x there above greatest = subst (λ (l : List Name). IsGreatest (HasLog l) (log_number (get_or names i x))) (sym (take_more names i x there)) (record {
  reached = inl (get_or names i x, Contains-push (take i names) (get_or names i x), refl);
  bound = λ m has. elim (one_more (take i names) (get_or names i x) has.0 has.1) as (λ _. m ≤ log_number (get_or names i x)) [
    | inl old ↦ let low : m ≤ last = greatest.bound m (has.0, old, has.2) in omega (arith, low, above)
    | inr new ↦ let at : log_number (get_or names i x) ≡ log_number has.0 = ap (λ (y : Name). log_number y) new in omega (arith, at, has.2)
  ];
})

pub greatest_all : (names : List Name) (i last : ℕ) → length names ≤ i → IsGreatest (HasLog (take i names)) last → IsGreatest (HasLog names) last
greatest_all names i last whole greatest = subst (λ (l : List Name). IsGreatest (HasLog l) last) (take_all i names whole) greatest

pub number_low : (m : Name) → log_number m ≤ m.number
number_low m = by_kind m.kind
  where
    by_kind : (k : NameKind) → number_by k m.number ≤ m.number
    by_kind kinds.Log = omega arith
    by_kind kinds.Old = omega arith
    by_kind kinds.Store = omega arith
    by_kind kinds.Edits = omega arith

-- ---- what is kept then

module _ (u : DiskView) (regions : List RegionBase) (flushed : ℕ → ℕ) (opened : IsOpened u regions flushed) (sound : IsTrueDisk u) where
  like_of : (I : Files) → IsImageNow u I → IsLike (start_of u.files flushed) I
  like_of I there = started u.files I flushed opened.fit opened.no_logs (opened.no_logs_in I there) (λ m store. opened.stores_in I m there store) opened.flushed_of

  orderly : IsOrderly (start_of u.files flushed)
  orderly = started_orderly u.files flushed opened.no_logs opened.flushed_of

  -- a name in an image is there
  there_in : (I : Files) (m : Name) → IsImageNow u I → IsPresent I m → IsPresent u.files m
  there_in I m there present none = present (sound.absent m none (opened.none_gone m) I there)

  is_some_of : (image : Option (List ℕ)) → (image ≡ None → ⊥) → is_some image ≡ true
  is_some_of None some = absurd (some refl)
  is_some_of (Some bytes) some = refl

  -- the names before the first log
  pub names_found : (ns : List ℕ) (n : ℕ) → ((m : Name) → IsPresent u.files m → log_number m < n) → (I : Files) → IsImageNow u I → Bears u.files ns n I
  names_found ns n above I there = record {
    logs = λ m kind present. absurd (present (opened.no_logs_in I there m (inl kind)));
    olds = λ m kind present.
        let found = there_in I m there present in
        let at : log_number m ≡ m.number = ap (λ k. number_by k m.number) kind in
        (sound.named m (is_some_of (content u.files m) found) (inr kind), omega (arith, above m found, at));
    apart = λ a b log old a_in b_in. absurd (a_in (opened.no_logs_in I there a (inl log)));
    stores = λ m kind present. inl (there_in I m there present);
    no_edits = λ m kind. opened.no_logs_in I there m (inr kind);
  }

  abbrev pub Recovers : Files → Type 0
  Recovers J = RecoversSome u.files [] J

  recovers : (J : Files) → IsLike (start_of u.files flushed) J → Recovers J
  recovers J like = some_alike (start_of u.files flushed) u.files J (like_of u.files sound.reads) like orderly

  -- before any call
  pub still_moments : Throughout Recovers 4 u u
  still_moments = more_time Recovers 0 4 u u (omega arith) (at_once Recovers u (λ J there. recovers J (like_of J there)))

  module _ (v : DiskView) (looks : Looks u v) where
    pub look_moments : Throughout Recovers 1 u v
    look_moments = in_one_call Recovers u v (λ J there. recovers J (like_of J there)) looks.time (λ J there. recovers J (like_of J (looks.crash J there)))

    pub look_names : (ns : List ℕ) (n : ℕ) → ((m : Name) → IsPresent u.files m → log_number m < n) → Throughout (Bears u.files ns n) 1 u v
    look_names ns n above = in_one_call (Bears u.files ns n) u v (names_found ns n above) looks.time (λ J there. names_found ns n above J (looks.crash J there))

    pub free : (n : ℕ) → IsAbsent v.files (log_name n) × (¬ v.gone (log_name n))
    free n = (ap (λ (f : Files). content f (log_name n)) looks.files ∙ opened.no_logs (log_name n) (inl refl), λ gone. opened.none_gone (log_name n) (looks.gone (log_name n) gone))

    module _ (w : DiskView) (n : ℕ) (over : Throughout (OnlyAt (log_name n) (HasEntries (log_name n) []) v) 3 v w) where
      new_like : (J I : Files) → IsImageNow u I → SameBut (log_name n) I J → HasEntries (log_name n) [] (content J (log_name n)) → IsLike (start_of u.files flushed) J
      new_like J I there same has =
          like_same (start_of u.files flushed) I J (like_of I there)
          (grown (log_name n) (inl refl) I J same [] [] [] refl (inr (opened.no_logs_in I there (log_name n) (inl refl), refl)) has (like_of I there).fit (none_fresh I))

      pub start_moments : Throughout Recovers 4 u w
      start_moments = joined Recovers 1 3 u v w look_moments
          (weaker (OnlyAt (log_name n) (HasEntries (log_name n) []) v) Recovers 3 v w (λ J only. recovers J (new_like J only.base (looks.crash only.base only.was) only.elsewhere only.here)) over)

      pub start_names : (ns : List ℕ) → ((m : Name) → IsPresent u.files m → log_number m < n) → Throughout (Bears u.files ns n) 4 u w
      start_names ns above = joined (Bears u.files ns n) 1 3 u v w (look_names ns n above)
          (weaker (OnlyAt (log_name n) (HasEntries (log_name n) []) v) (Bears u.files ns n) 3 v w (λ J only. bears_log u.files ns (log_name n) only.base J refl refl only.elsewhere (names_found ns n above only.base (looks.crash only.base only.was))) over)

      module _ (touches : Touches (log_name n) v w) where
        shows : (J : Files) → IsImageNow w J → HasText (log_name n) [] None (content J (log_name n)) → Shows (start_of u.files flushed) (log_name n) [] J
        shows J there text =
            let only = at_end (OnlyAt (log_name n) (HasEntries (log_name n) []) v) 3 v w over J there in
            let was = looks.crash only.base only.was in
            record {
              like = new_like J only.base was only.elsewhere (inl (None, text));
              ended = None;
              text = text;
              up_to = up_to_but (log_name n) n only.base J only.elsewhere (λ kind. (refl, omega arith)) (λ m kind present. absurd (present (opened.no_logs_in only.base was m (inl kind))));
            }

        was_present : (m : Name) → m ≢ log_name n → IsPresent w.files m → IsPresent u.files m
        was_present m far there none = present_before (log_name n) m v.files w.files touches.others far there (ap (λ (f : Files). content f m) looks.files ∙ none)

        other_kind : (m : Name) → (m.kind ≡ kinds.Log → ⊥) → IsPresent w.files m → IsPresent u.files m
        other_kind m differs there = was_present m (λ is. differs (ap (λ (x : Name). x.kind) is)) there

        below_next : (next_store : List ℕ) → AreNumbersOf (λ m. m.next_store) regions next_store → (m : Name) → m.kind ≡ kinds.Store → IsPresent u.files m → 0 < get_or next_store m.region 0 → m.number < get_or next_store m.region 0
        below_next next_store are m store there served = elim (cases_lt m.number (get_or next_store m.region 0)) as (λ _. m.number < get_or next_store m.region 0) [
          | inl low ↦ low
          | inr high ↦
              let none : get_or next_store m.region 0 ≡ 0 = are.others m.region (λ b member is.
              let low = opened.next b m member store (sym is) there in
              let at : get_or next_store b.region 0 ≡ b.next_store = are.named b member in
              let same : get_or next_store b.region 0 ≡ get_or next_store m.region 0 = ap (λ (r : ℕ). get_or next_store r 0) is in
              absurd (omega (arith, low, at, same, high))) in
              absurd (omega (arith, served, none))
        ]

        served_of : (next_store : List ℕ) → AreNumbersOf (λ m. m.next_store) regions next_store → AreRegions regions → (r : ℕ) → 0 < get_or next_store r 0 → (1 ≤ r) × (r ≤ 64)
        served_of next_store are regions_are r some = elim (cases_lt 64 r) as (λ _. (1 ≤ r) × (r ≤ 64)) [
          | inl high ↦ absurd (let none = are.others r (λ b member is. let base = regions_are.each b member in absurd (omega (arith, base.region, is, high))) in omega (arith, none, some))
          | inr low ↦ elim (cases_lt 0 r) as (λ _. (1 ≤ r) × (r ≤ 64)) [
            | inl given ↦ (omega (arith, given), omega (arith, low))
            | inr zero ↦ absurd (let none = are.others r (λ b member is. let base = regions_are.each b member in absurd (omega (arith, base.given, is, zero))) in omega (arith, none, some))
          ]
        ]

        pub start_kept : (next_store : List ℕ) → AreNumbersOf (λ m. m.next_store) regions next_store → ((m : Name) → IsPresent u.files m → log_number m < n)
            → AreRegions regions → ((limit : ℕ) → ((m : Name) → IsPresent u.files m → log_number m ≤ limit) → n ≤ limit + 1) → (now : OpenLog) → now.name ≡ log_name n → IsOpen now w [] → IsStaged now [] → Keeps now w (started_in u.files flushed) next_store
        start_kept next_store are above regions_are low now name is_open is_staged =
            let number : now.name.number ≡ n = ap (λ (x : Name). x.number) name in record {
              kind = ap (λ (x : Name). x.kind) name;
              region = ap (λ (x : Name). x.region) name;
              open_log = is_open;
              staged = is_staged;
              orderly = orderly;
              images = λ J there.
                  let text : HasText now.name [] None (content J now.name) = rest_has now.name [] (content J now.name) is_open.each (is_open.file.durable J there) in
                  subst (λ (x : Name). Shows (start_of u.files flushed) x [] J) (sym name) (shows J there (subst (λ (x : Name). HasText x [] None (content J x)) name text));
              names = λ J there. subst (λ (x : ℕ). Bears u.files next_store x J) (sym number) (at_end (Bears u.files next_store n) 4 u w (start_names next_store above) J there);
              served = λ r some. served_of next_store are regions_are r some;
              few = λ limit found. let least = low limit (λ m there. log_low limit m (found m) there) in omega (arith, least, number, is_open.count, is_staged.count);
              logs = λ c member. absurd (no_log c member);
              one = λ c d c_in d_in same. absurd (no_log c c_in);
              there = λ m kind there. elim (name_cases m (log_name n)) as (λ _. (m ≡ now.name) ⊎ ((c : ClosedLog) × Contains [] c × (log_name c.number ≡ m))) [
                | inl is ↦ inl (is ∙ sym name)
                | inr far ↦ absurd (was_present m far there (opened.no_logs m (inl kind)))
              ];
              gone = λ m is. absurd (opened.none_gone m (looks.gone m (touches.gone m is)));
              olds = λ m kind there.
                  let low = above m (other_kind m (λ is. absurd (cc (sym kind ∙ is))) there) in
                  let at : log_number m ≡ m.number = ap (λ k. number_by k m.number) kind in
                  (omega (arith, low, at, number), λ c member. absurd (no_log c member));
              stores = λ m kind there served. below_next next_store are m kind (other_kind m (λ is. absurd (cc (sym kind ∙ is))) there) served;
              found = λ m kind there served. below_next next_store are m kind there served;
            }
          where
            log_low : (limit : ℕ) (m : Name) → ((m.kind ≡ kinds.Log) ⊎ (m.kind ≡ kinds.Old) → IsPresent u.files m → m.number ≤ limit) → IsPresent u.files m → log_number m ≤ limit
            log_low limit m found there = by_kind m.kind (λ either. found either there)
              where
                by_kind : (k : NameKind) → ((k ≡ kinds.Log) ⊎ (k ≡ kinds.Old) → m.number ≤ limit) → number_by k m.number ≤ limit
                by_kind kinds.Log up = up (inl refl)
                by_kind kinds.Old up = up (inr refl)
                by_kind kinds.Store up = omega arith
                by_kind kinds.Edits up = omega arith

            no_log : (c : ClosedLog) → Contains [] c → ⊥
            no_log c member = omega (arith, member.1)
