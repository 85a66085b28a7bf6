-- What writing a store leaves of what is kept.
use Rattle.std.proofs.Common.{◌≡◌, ◌≢◌, inl, inr, ℕ, ◌+◌, ◌≤◌, ◌<◌, List, get_or, set, length, Option, Some, None, refl, sym, ap, ◌∙◌, subst, arith}
use Rattle.std.proofs.lemmas.Bool.{cases_eq, cases_lt}
use Rattle.std.proofs.lemmas.List.{get_or-set_same, get_or-set_other, get_or_past}
use Rattle.log_model.specs.declared.name.Name.{Name}
use Rattle.log_model.specs.declared.name.NameKind.TheVariants as kinds
use Rattle.cell_model.specs.declared.form.Form.TheVariants.{Tagged}
use Rattle.log_model.specs.StoreText.{Store, IsStore, IsThere, IsStoreText, store_text}
use Rattle.log_model.specs.Files.{Files, content, SameBut, IsStoreFile, IsPresent, IsAbsent}
use Rattle.disk_images.specs.Crash.{DiskView, IsImageNow, Throughout, OnlyAt}
use Rattle.disk_images.specs.Calls.{IsTrueDisk}
use Rattle.disk_images.specs.OneFile.{Touches, IsDurableFile}
use Rattle.disk_images.proofs.Moments.{weaker, at_end}
use Rattle.recovery_laws.specs.Change.{HasText}
use Rattle.recovery_laws.specs.Kept.{IsCut, IsNotThere, IsNotReplaced, flushed_to, lasts}
use Rattle.recovery_laws.proofs.Names.{name_cases, store_apart}
use Rattle.recovery_laws.proofs.Likes.{orderly_flushed}
use Rattle.recovery_laws.proofs.Logs.{none_some}
use Rattle.recovery_laws.proofs.OneStore.{one_store}
use Rattle.recovery_laws.proofs.Flushed.{unopened, opened}
use Rattle.log_file.specs.LogText.{at_rest}
use Rattle.log_file.specs.Open.{OpenLog}
use Rattle.store_file.specs.Whole.{IsWholeOrNot}
use Rattle.store_file.proofs.Texts.{tagged_text}
use Rattle.log_ledger.specs.History.{History, flushed_in}
use Rattle.log_device.specs.Bears.{Bears}
use Rattle.log_device.specs.Keeps.{Keeps, Shows, Between, IsUpTo, store_name}
use Rattle.log_device.proofs.Bearing.{bears_on, bears_store}
use Rattle.log_device.proofs.Disk.{still_durable, still_closed, present_before, up_to_but}

gate_of : (s : Store) → IsThere (store_text Tagged s)
unfolding store_text
gate_of s = (omega arith, refl)

-- the next store's name is free
module _ (log : OpenLog) (u : DiskView) (h : History) (ns : List ℕ) (keeps : Keeps log u h ns) (sound : IsTrueDisk u) (r : ℕ) (served : 0 < get_or ns r 0) where
  free_in_files : (image : Option (List ℕ)) → content u.files (store_name r (get_or ns r 0)) ≡ image → content u.files (store_name r (get_or ns r 0)) ≡ None
  free_in_files None is = is
  free_in_files (Some bytes) is = absurd (let low = keeps.stores (store_name r (get_or ns r 0)) refl (λ none. none_some (content u.files (store_name r (get_or ns r 0))) bytes none is) served in omega (arith, low))

  pub free_store : IsAbsent u.files (store_name r (get_or ns r 0)) × (¬ u.gone (store_name r (get_or ns r 0)))
  free_store = (free_in_files (content u.files (store_name r (get_or ns r 0))) refl, λ gone. absurd (cc ((keeps.gone (store_name r (get_or ns r 0)) gone).0)))

module _ (log : OpenLog) (u w : DiskView) (h : History) (ns : List ℕ) (keeps : Keeps log u h ns) (sound : IsTrueDisk u) (r : ℕ) (family : List ℕ) (n : ℕ) (s : Store) (by : ℕ) (served : 0 < get_or ns r 0)
    (cut : IsCut h.kept r family n s) (is_store : IsStore s) (logged : n ≤ lasts h.kept.first h.kept.durable r) where
  abbrev pub name : Name
  name = store_name r (get_or ns r 0)

  name_free : IsAbsent u.files name × (¬ u.gone name)
  name_free = free_store log u h ns keeps sound r served

  hidden : (I : Files) → IsImageNow u I → IsNotThere (content I name)
  hidden I there bytes is gate = none_some (content I name) bytes (sound.absent name name_free.0 name_free.1 I there) is

  text : IsStoreText r (store_text Tagged s) s
  text = subst (λ (q : ℕ). IsStoreText q (store_text Tagged s) s) cut.region (tagged_text s is_store)

  -- the file is the store
  file_in : (J : Files) → content J name ≡ Some (store_text Tagged s) → IsStoreFile J name.region name s
  file_in J there = record { kind = refl; of = refl; bytes = store_text Tagged s; there = there; gate = gate_of s; text = text }

  one_in : (J : Files) → content J name ≡ Some (store_text Tagged s) → (t : Store) → IsStoreFile J name.region name t → t ≡ s
  one_in J there t f =
      let same : Some f.bytes ≡ Some (store_text Tagged s) = sym f.there ∙ there in
      let bytes : f.bytes ≡ store_text Tagged s = cc (same) in
      one_store r (store_text Tagged s) t s (subst (λ (b : List ℕ). IsStoreText r b t) bytes f.text) text

  log_apart : log.name ≢ name
  log_apart is = store_apart name log.name refl (inl keeps.kind) (sym is)

  log_text : (I J : Files) (there : IsImageNow u I) → SameBut name I J → HasText log.name h.current (keeps.images I there).ended (content J log.name)
  log_text I J there same = subst (λ (b : Option (List ℕ)). HasText log.name h.current (keeps.images I there).ended b) (sym (same log.name log_apart)) (keeps.images I there).text

  up_to_there : (I J : Files) → IsImageNow u I → SameBut name I J → IsUpTo log.name.number J
  up_to_there I J there same = up_to_but name log.name.number I J same (λ kind. absurd (cc kind)) (keeps.images I there).up_to

  -- no store of an image has a greater number
  not_replaced : (I : Files) → IsImageNow u I → IsNotReplaced I name
  not_replaced I there other t file one = elim ((keeps.names I there).stores other file.kind (λ none. none_some (content I other) file.bytes none file.there)) as (λ _. other.number ≤ name.number) [
    | inl found ↦ (let at : get_or ns other.region 0 ≡ get_or ns r 0 = ap (λ (q : ℕ). get_or ns q 0) file.of in omega (arith, keeps.found other file.kind found (omega (arith, at, served)), at))
    | inr ours ↦ (let at : get_or ns other.region 0 ≡ get_or ns r 0 = ap (λ (q : ℕ). get_or ns q 0) file.of in omega (arith, ours.2, at))
  ]

  stored_in : (I J : Files) → IsImageNow u I → SameBut name I J → content J name ≡ Some (store_text Tagged s) → Shows (flushed_to h.kept r family n) log.name h.current J
  stored_in I J there same is = record {
    like = opened name refl I J same (hidden I there) h.kept family n s cut (file_in J is) (not_replaced I there) (one_in J is) (keeps.images I there).like;
    ended = (keeps.images I there).ended;
    text = log_text I J there same;
    up_to = up_to_there I J there same;
  }

  not_stored : (I J : Files) → IsImageNow u I → SameBut name I J → IsNotThere (content J name) → Shows h.kept log.name h.current J
  not_stored I J there same none = record {
    like = unopened name refl I J same (hidden I there) h.kept none (keeps.images I there).like;
    ended = (keeps.images I there).ended;
    text = log_text I J there same;
    up_to = up_to_there I J there same;
  }

  abbrev pub Storing : Files → Type 0
  Storing J = Between h.kept log.name h.current (flushed_to h.kept r family n) log.name h.current J

  one_image : (J : Files) → OnlyAt name (IsWholeOrNot (store_text Tagged s)) u J → Storing J
  one_image J only = elim only.here as (λ _. Storing J) [
    | inl none ↦ inl (not_stored only.base J only.was only.elsewhere none)
    | inr whole ↦ inr (stored_in only.base J only.was only.elsewhere whole)
  ]

  pub store_moments : Throughout (OnlyAt name (IsWholeOrNot (store_text Tagged s)) u) by u w → Throughout Storing by u w
  store_moments over = weaker (OnlyAt name (IsWholeOrNot (store_text Tagged s)) u) Storing by u w one_image over

  named : (I J : Files) → IsImageNow u I → SameBut name I J → Bears h.kept.base ns log.name.number J
  named I J there same = bears_store h.kept.base ns log.name.number name I J refl (keeps.served r served) (omega arith) same (keeps.names I there)

  inside : r < length ns
  inside = get_or_inside ns r served
    where
      get_or_inside : (xs : List ℕ) (i : ℕ) → 0 < get_or xs i 0 → i < length xs
      get_or_inside xs i some = elim (cases_lt i (length xs)) as (λ _. i < length xs) [
        | inl within ↦ within
        | inr past ↦ absurd (let none : get_or xs i 0 ≡ 0 = get_or_past xs i 0 past in omega (arith, none, some))
      ]

  abbrev pub next_stores : List ℕ
  next_stores = set ns r (get_or ns r 0 + 1)

  next_stores_grow : (q : ℕ) → get_or ns q 0 ≤ get_or next_stores q 0
  next_stores_grow q = elim (cases_eq q r) as (λ _. get_or ns q 0 ≤ get_or next_stores q 0) [
    | inl is ↦
        let now : get_or next_stores q 0 ≡ get_or ns r 0 + 1 = ap (λ (p : ℕ). get_or next_stores p 0) is ∙ get_or-set_same ns r (get_or ns r 0 + 1) 0 inside in
        let was : get_or ns q 0 ≡ get_or ns r 0 = ap (λ (p : ℕ). get_or ns p 0) is in
        omega (arith, now, was)
    | inr other ↦
        let now : get_or next_stores q 0 ≡ get_or ns q 0 = get_or-set_other ns r q (get_or ns r 0 + 1) 0 other in
        omega (arith, now)
  ]

  still_served : (q : ℕ) → 0 < get_or next_stores q 0 → (1 ≤ q) × (q ≤ 64)
  still_served q some = elim (cases_eq q r) as (λ _. (1 ≤ q) × (q ≤ 64)) [
    | inl is ↦ subst (λ (p : ℕ). (1 ≤ p) × (p ≤ 64)) (sym is) (keeps.served r served)
    | inr other ↦ let now : get_or next_stores q 0 ≡ get_or ns q 0 = get_or-set_other ns r q (get_or ns r 0 + 1) 0 other in keeps.served q (omega (arith, now, some))
  ]

  -- the store's name is counted
  counted_on : (m : Name) → m.kind ≡ kinds.Store → IsPresent w.files m → SameBut name u.files w.files → 0 < get_or next_stores m.region 0 → m.number < get_or next_stores m.region 0
  counted_on m kind there same some = elim (name_cases m name) as (λ _. m.number < get_or next_stores m.region 0) [
    | inl is ↦
        let region : m.region ≡ r = ap (λ (x : Name). x.region) is in
        let number : m.number ≡ get_or ns r 0 = ap (λ (x : Name). x.number) is in
        let now : get_or next_stores m.region 0 ≡ get_or ns r 0 + 1 = ap (λ (q : ℕ). get_or next_stores q 0) region ∙ get_or-set_same ns r (get_or ns r 0 + 1) 0 inside in
        omega (arith, number, now)
    | inr far ↦ elim (cases_eq m.region r) as (λ _. m.number < get_or next_stores m.region 0) [
      | inl region ↦
          let now : get_or next_stores m.region 0 ≡ get_or ns r 0 + 1 = ap (λ (q : ℕ). get_or next_stores q 0) region ∙ get_or-set_same ns r (get_or ns r 0 + 1) 0 inside in
          let was : get_or ns m.region 0 ≡ get_or ns r 0 = ap (λ (q : ℕ). get_or ns q 0) region in
          let low = keeps.stores m kind (present_before name m u.files w.files same far there) (omega (arith, was, served)) in
          omega (arith, low, now, was)
      | inr other ↦
          let now : get_or next_stores m.region 0 ≡ get_or ns m.region 0 = get_or-set_other ns r m.region (get_or ns r 0 + 1) 0 other in
          let low = keeps.stores m kind (present_before name m u.files w.files same far there) (omega (arith, now, some)) in
          omega (arith, low, now)
    ]
  ]

  found_on : (m : Name) → m.kind ≡ kinds.Store → IsPresent h.kept.base m → 0 < get_or next_stores m.region 0 → m.number < get_or next_stores m.region 0
  found_on m kind there some = elim (cases_eq m.region r) as (λ _. m.number < get_or next_stores m.region 0) [
    | inl region ↦
        let was : get_or ns m.region 0 ≡ get_or ns r 0 = ap (λ (q : ℕ). get_or ns q 0) region in
        omega (arith, keeps.found m kind there (omega (arith, was, served)), next_stores_grow m.region)
    | inr other ↦
        let now : get_or next_stores m.region 0 ≡ get_or ns m.region 0 = get_or-set_other ns r m.region (get_or ns r 0 + 1) 0 other in
        omega (arith, keeps.found m kind there (omega (arith, now, some)), now)
  ]

  pub store_kept : Throughout (OnlyAt name (IsWholeOrNot (store_text Tagged s)) u) by u w → Touches name u w → IsDurableFile w name (store_text Tagged s) → Keeps log w (flushed_in h r family n) next_stores
  store_kept over touches file = record {
    kind = keeps.kind;
    region = keeps.region;
    open_log = record {
      each = keeps.open_log.each;
      file = still_durable name log.name (IsWholeOrNot (store_text Tagged s)) by u w (at_rest log.name.number h.current) log_apart over touches keeps.open_log.file;
      gate = keeps.open_log.gate;
      count = keeps.open_log.count;
    };
    staged = keeps.staged;
    orderly = orderly_flushed h.kept r family n keeps.orderly cut.more logged;
    images = λ J now. let only = at_end (OnlyAt name (IsWholeOrNot (store_text Tagged s)) u) by u w over J now in stored_in only.base J only.was only.elsewhere (file.durable J now);
    names = λ J now.
        let only = at_end (OnlyAt name (IsWholeOrNot (store_text Tagged s)) u) by u w over J now in
        bears_on h.kept.base ns next_stores log.name.number log.name.number J (omega arith) next_stores_grow (named only.base J only.was only.elsewhere);
    served = still_served;
    few = keeps.few;
    logs = λ c member. let l = keeps.logs c member in (still_closed name (IsWholeOrNot (store_text Tagged s)) by u w c.number c.entries (λ is. absurd (cc (ap (λ (x : Name). x.kind) is))) over touches l.0, l.1);
    one = keeps.one;
    there = λ m kind there. keeps.there m kind (present_before name m u.files w.files touches.others (λ is. absurd (cc (sym kind ∙ ap (λ (x : Name). x.kind) is))) there);
    gone = λ m is. keeps.gone m (touches.gone m is);
    olds = λ m kind there. keeps.olds m kind (present_before name m u.files w.files touches.others (λ is. absurd (cc (sym kind ∙ ap (λ (x : Name). x.kind) is))) there);
    stores = λ m kind there some. counted_on m kind there touches.others some;
    found = found_on;
  }
