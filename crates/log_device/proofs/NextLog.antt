-- What ending one log and beginning the next leaves.
use Rattle.std.proofs.Common.{◌≡◌, ◌≢◌, ◌⊎◌, inl, inr, ℕ, ◌+◌, ◌<◌, ◌≤◌, List, [], ◌∷◌, ◌++◌, length, Contains, Option, Some, None, refl, sym, ap, ◌∙◌, subst, arith}
use Rattle.log_model.specs.declared.name.Name.{Name}
use Rattle.log_model.specs.declared.name.NameKind.TheVariants as kinds
use Rattle.log_model.specs.Entry.{Entry}
use Rattle.log_model.specs.Files.{Files, content, SameBut, IsAbsent, IsPresent}
use Rattle.disk_images.specs.Crash.{DiskView, IsImageNow, Throughout, OnlyAt}
use Rattle.disk_images.specs.Calls.{IsTrueDisk}
use Rattle.disk_images.specs.OneFile.{Touches, IsDurableFile}
use Rattle.disk_images.proofs.Moments.{weaker, joined, at_end}
use Rattle.recovery_laws.specs.Change.{HasText, HasEntries}
use Rattle.recovery_laws.specs.Kept.{IsLike}
use Rattle.recovery_laws.proofs.Names.{name_cases}
use Rattle.recovery_laws.proofs.Logs.{grown, none_some}
use Rattle.recovery_laws.proofs.Likes.{none_fresh, like_same}
use Rattle.log_file.specs.LogText.{ended_text}
use Rattle.std.proofs.lemmas.List.Elements.{Contains-append_left, Contains-push}
use Rattle.log_file.specs.Open.{OpenLog, AreEntriesOf, IsOpen, IsStaged, HasEnding}
use Rattle.log_file.proofs.Committed.{rest_has, ended_has}
use Rattle.log_ledger.specs.History.{ClosedLog, History, closed_in}
use Rattle.log_device.specs.Bears.{Bears}
use Rattle.log_device.specs.Keeps.{Keeps, Shows, Between, IsClosedLog, IsInOrder, log_name}
use Rattle.log_device.proofs.Lists.{one_more}
use Rattle.log_device.proofs.Disk.{still_durable, still_closed, present_before, up_to_but}
use Rattle.log_device.proofs.Bearing.{bears_on, bears_log}
use Rattle.log_device.proofs.Committed.{same_log, names_moments}

module _ (log : OpenLog) (u v w : DiskView) (h : History) (ns : List ℕ) (keeps : Keeps log u h ns) (sound_u : IsTrueDisk u) (sound_v : IsTrueDisk v) where
  abbrev pub next : Name
  next = log_name (log.name.number + 1)

  apart : next ≢ log.name
  apart is = let at : log.name.number + 1 ≡ log.name.number = ap (λ (m : Name). m.number) is in omega (arith, at)

  apart_back : log.name ≢ next
  apart_back is = apart (sym is)

  lower : (n : ℕ) → n < log.name.number → log_name n ≢ next
  lower n low is = let at : n ≡ log.name.number + 1 = ap (λ (m : Name). m.number) is in omega (arith, at, low)

  lower_log : (n : ℕ) → n < log.name.number → log_name n ≢ log.name
  lower_log n low is = let at : n ≡ log.name.number = ap (λ (m : Name). m.number) is in omega (arith, at, low)

  its_name : log.name ≡ log_name log.name.number
  its_name i = record { kind = keeps.kind i; region = keeps.region i; number = log.name.number }

  -- the next file is in no image yet
  free_in : (I : Files) → IsImageNow u I → IsAbsent I next
  free_in I there = none_there (content I next) refl
    where
      none_there : (image : Option (List ℕ)) → content I next ≡ image → content I next ≡ None
      none_there None is = is
      none_there (Some bytes) is = absurd (let up = (keeps.images I there).up_to next refl (λ none. none_some (content I next) bytes none is) in omega (arith, up.1))

  pub free : IsAbsent u.files next × (¬ u.gone next)
  free = (free_in u.files sound_u.reads, λ gone. let g = keeps.gone next gone in absurd (omega (arith, g.2)))

  ending : (image : Option (List ℕ)) → HasEnding log.name h.current image → (ended : Option ℕ) × HasText log.name h.current ended image
  ending image (inl text) = (None, text)
  ending image (inr text) = (Some (length h.current), text)

  -- the old file with or without its end frame
  end_image : (J : Files) → OnlyAt log.name (HasEnding log.name h.current) u J → Shows h.kept log.name h.current J
  end_image J only = let text = ending (content J log.name) only.here in same_log log u h ns keeps J text.0 only.base only.was only.elsewhere text.1

  abbrev pub Rolling : Files → Type 0
  Rolling J = Between h.kept log.name h.current h.kept next [] J

  pub end_moments : Throughout (OnlyAt log.name (HasEnding log.name h.current) u) 4 u v → Throughout Rolling 4 u v
  end_moments over = weaker (OnlyAt log.name (HasEnding log.name h.current) u) Rolling 4 u v (λ J only. inl (end_image J only)) over

  abbrev pub Borne : Files → Type 0
  Borne J = Bears h.kept.base ns (log.name.number + 1) J

  borne_before : (I : Files) → IsImageNow u I → Borne I
  borne_before I there = bears_on h.kept.base ns ns log.name.number (log.name.number + 1) I (omega arith) (λ r. omega arith) (keeps.names I there)

  pub end_names : Throughout (OnlyAt log.name (HasEnding log.name h.current) u) 4 u v → Throughout Borne 4 u v
  end_names over = weaker (Bears h.kept.base ns log.name.number) Borne 4 u v (λ J bears. bears_on h.kept.base ns ns log.name.number (log.name.number + 1) J (omega arith) (λ r. omega arith) bears)
      (names_moments log u h ns keeps (HasEnding log.name h.current) 4 v over)

  no_bytes : (J : Files) → IsAbsent J next → IsInOrder log.name next h.current J
  no_bytes J none bytes there more = absurd (none_some (content J next) bytes none there)

  pub end_in_order : Throughout (OnlyAt log.name (HasEnding log.name h.current) u) 4 u v → Throughout (IsInOrder log.name next h.current) 4 u v
  end_in_order over = weaker (OnlyAt log.name (HasEnding log.name h.current) u) (IsInOrder log.name next h.current) 4 u v (λ J only. no_bytes J (only.elsewhere next apart ∙ free_in only.base only.was)) over

  module _ (over : Throughout (OnlyAt log.name (HasEnding log.name h.current) u) 4 u v) (touches : Touches log.name u v) (ended : IsDurableFile v log.name (ended_text log.name.number h.current)) where
    between : (I : Files) → IsImageNow v I → Shows h.kept log.name h.current I
    between I there = end_image I (at_end (OnlyAt log.name (HasEnding log.name h.current) u) 4 u v over I there)

    none_before : (I : Files) → IsImageNow v I → IsAbsent I next
    none_before I there = let only = at_end (OnlyAt log.name (HasEnding log.name h.current) u) 4 u v over I there in only.elsewhere next apart ∙ free_in only.base only.was

    pub still_free : IsAbsent v.files next × (¬ v.gone next)
    still_free = (none_before v.files sound_v.reads, λ gone. free.1 (touches.gone next gone))

    next_like : (J I : Files) → IsImageNow v I → SameBut next I J → HasEntries next [] (content J next) → IsLike h.kept J
    next_like J I there same has = like_same h.kept I J (between I there).like (grown next (inl refl) I J same [] [] [] refl (inr (none_before I there, refl)) has (between I there).like.fit (none_fresh I))

    -- the next file stands in the image
    next_shows : (J I : Files) → IsImageNow v I → SameBut next I J → (end : Option ℕ) → HasText next [] end (content J next) → Shows h.kept next [] J
    next_shows J I there same end text = record {
      like = next_like J I there same (inl (end, text));
      ended = end;
      text = text;
      up_to = up_to_but next next.number I J same (λ kind. (refl, omega arith)) (λ m kind present. let up = (between I there).up_to m kind present in (up.0, omega (arith, up.1)));
    }

    -- or it doesn't
    old_shows : (J I : Files) → IsImageNow v I → SameBut next I J → IsAbsent J next → Shows h.kept log.name h.current J
    old_shows J I there same none = record {
      like = next_like J I there same (inr (none, refl));
      ended = (between I there).ended;
      text = subst (λ (c : Option (List ℕ)). HasText log.name h.current (between I there).ended c) (sym (same log.name apart_back)) (between I there).text;
      up_to = λ m kind present. elim (name_cases m next) as (λ _. (m.region ≡ 0) × (m.number ≤ log.name.number)) [
        | inl is ↦ absurd (present (subst (λ (n : Name). content J n ≡ None) (sym is) none))
        | inr far ↦ (between I there).up_to m kind (present_before next m I J same far present)
      ];
    }

    begun_image : (J : Files) → OnlyAt next (HasEntries next []) v J → Rolling J
    begun_image J only = elim only.here as (λ _. Rolling J) [
      | inl text ↦ inr (next_shows J only.base only.was only.elsewhere text.0 text.1)
      | inr none ↦ inl (old_shows J only.base only.was only.elsewhere none.0)
    ]

    begun_names : (J : Files) → OnlyAt next (HasEntries next []) v J → Borne J
    begun_names J only = bears_log h.kept.base ns next only.base J refl refl only.elsewhere (at_end Borne 4 u v (end_names over) only.base only.was)

    pub roll_names : Throughout (OnlyAt next (HasEntries next []) v) 3 v w → Throughout Borne 7 u w
    roll_names more = joined Borne 4 3 u v w (end_names over) (weaker (OnlyAt next (HasEntries next []) v) Borne 3 v w begun_names more)

    pub roll_moments : Throughout (OnlyAt next (HasEntries next []) v) 3 v w → Throughout Rolling 7 u w
    roll_moments more = joined Rolling 4 3 u v w (end_moments over) (weaker (OnlyAt next (HasEntries next []) v) Rolling 3 v w begun_image more)

    old_text : (J : Files) → OnlyAt next (HasEntries next []) v J → IsInOrder log.name next h.current J
    old_text J only bytes there more = (Some (length h.current), ended_has log.name h.current (content J log.name) keeps.open_log.each (only.elsewhere log.name apart_back ∙ ended.durable only.base only.was))

    pub roll_in_order : Throughout (OnlyAt next (HasEntries next []) v) 3 v w → Throughout (IsInOrder log.name next h.current) 7 u w
    roll_in_order more = joined (IsInOrder log.name next h.current) 4 3 u v w (end_in_order over) (weaker (OnlyAt next (HasEntries next []) v) (IsInOrder log.name next h.current) 3 v w old_text more)

    module _ (more : Throughout (OnlyAt next (HasEntries next []) v) 3 v w) (touches_next : Touches next v w) where
      abbrev pub just_closed : ClosedLog
      just_closed = record { number = log.name.number; entries = h.current }

      closed_still : (number : ℕ) (es : List Entry) → number < log.name.number → IsClosedLog u number es → IsClosedLog w number es
      closed_still number es low closed =
          still_closed next (HasEntries next []) 3 v w number es (lower number low) more touches_next
          (still_closed log.name (HasEnding log.name h.current) 4 u v number es (lower_log number low) over touches closed)

      now_closed : IsClosedLog w log.name.number h.current
      now_closed = record {
        each = subst (λ (n : Name). AreEntriesOf n h.current) its_name keeps.open_log.each;
        file = subst (λ (n : Name). IsDurableFile w n (ended_text log.name.number h.current)) its_name (still_durable next log.name (HasEntries next []) 3 v w (ended_text log.name.number h.current) apart_back more touches_next ended);
      }

      closed_all : (c : ClosedLog) → Contains (h.logs ++ just_closed ∷ []) c → IsClosedLog w c.number c.entries × (c.number < next.number)
      closed_all c member = elim (one_more h.logs just_closed c member) as (λ _. IsClosedLog w c.number c.entries × (c.number < next.number)) [
        | inl old ↦ let l = keeps.logs c old in (closed_still c.number c.entries l.1 l.0, omega (arith, l.1))
        | inr is ↦ subst (λ (x : ClosedLog). IsClosedLog w x.number x.entries × (x.number < next.number)) is (now_closed, omega arith)
      ]

      one_each : (c d : ClosedLog) → Contains (h.logs ++ just_closed ∷ []) c → Contains (h.logs ++ just_closed ∷ []) d → c.number ≡ d.number → c ≡ d
      one_each c d c_in d_in same = elim (one_more h.logs just_closed c c_in) as (λ _. c ≡ d) [
        | inl old_c ↦ elim (one_more h.logs just_closed d d_in) as (λ _. c ≡ d) [
          | inl old_d ↦ keeps.one c d old_c old_d same
          | inr new_d ↦ let at : log.name.number ≡ d.number = ap (λ (x : ClosedLog). x.number) new_d in absurd (omega (arith, (keeps.logs c old_c).1, at, same))
        ]
        | inr new_c ↦ elim (one_more h.logs just_closed d d_in) as (λ _. c ≡ d) [
          | inl old_d ↦ let at : log.name.number ≡ c.number = ap (λ (x : ClosedLog). x.number) new_c in absurd (omega (arith, (keeps.logs d old_d).1, at, same))
          | inr new_d ↦ sym new_c ∙ new_d
        ]
      ]

      was_present : (m : Name) → m ≢ next → m ≢ log.name → IsPresent w.files m → IsPresent u.files m
      was_present m far off there = present_before log.name m u.files v.files touches.others off (present_before next m v.files w.files touches_next.others far there)

      other_kind : (m : Name) → (m.kind ≡ kinds.Log → ⊥) → IsPresent w.files m → IsPresent u.files m
      other_kind m differs there = was_present m (λ is. differs (ap (λ (n : Name). n.kind) is)) (λ is. differs (ap (λ (n : Name). n.kind) is ∙ keeps.kind)) there

      pub roll_kept : (now : OpenLog) → h.kept.staged ≡ [] → 0 < log.entries → now.name ≡ next → IsOpen now w [] → IsStaged now [] → Keeps now w (closed_in h log.name.number) ns
      roll_kept now none some name is_open is_staged = record {
        kind = ap (λ (n : Name). n.kind) name;
        region = ap (λ (n : Name). n.region) name;
        open_log = is_open;
        staged = subst (λ (l : List Entry). IsStaged now l) (sym none) is_staged;
        orderly = keeps.orderly;
        images = λ J there.
            let only = at_end (OnlyAt next (HasEntries next []) v) 3 v w more J there in
            let text : HasText now.name [] None (content J now.name) = rest_has now.name [] (content J now.name) is_open.each (is_open.file.durable J there) in
            subst (λ (n : Name). Shows h.kept n [] J) (sym name) (next_shows J only.base only.was only.elsewhere None (subst (λ (n : Name). HasText n [] None (content J n)) name text));
        names = λ J there.
            let at : now.name.number ≡ next.number = ap (λ (n : Name). n.number) name in
            subst (λ (n : ℕ). Bears h.kept.base ns n J) (sym at) (begun_names J (at_end (OnlyAt next (HasEntries next []) v) 3 v w more J there));
        served = keeps.served;
        few = λ n found. let at : now.name.number ≡ next.number = ap (λ (m : Name). m.number) name in omega (arith, keeps.few n found, some, at, is_open.count, is_staged.count);
        logs = λ c member. let l = closed_all c member in let at : now.name.number ≡ next.number = ap (λ (n : Name). n.number) name in (l.0, omega (arith, l.1, at));
        one = one_each;
        there = λ m kind there. elim (name_cases m next) as (λ _. (m ≡ now.name) ⊎ ((c : ClosedLog) × Contains (h.logs ++ just_closed ∷ []) c × (log_name c.number ≡ m))) [
          | inl is ↦ inl (is ∙ sym name)
          | inr far ↦ inr (elim (name_cases m log.name) as (λ _. (c : ClosedLog) × Contains (h.logs ++ just_closed ∷ []) c × (log_name c.number ≡ m)) [
            | inl is ↦ (just_closed, Contains-push h.logs just_closed, sym its_name ∙ sym is)
            | inr off ↦ elim (keeps.there m kind (was_present m far off there)) as (λ _. (c : ClosedLog) × Contains (h.logs ++ just_closed ∷ []) c × (log_name c.number ≡ m)) [
              | inl is ↦ absurd (off is)
              | inr old ↦ (old.0, Contains-append_left h.logs (just_closed ∷ []) old.0 old.1, old.2)
            ]
          ])
        ];
        gone = λ m is. let g = keeps.gone m (touches.gone m (touches_next.gone m is)) in let at : now.name.number ≡ next.number = ap (λ (n : Name). n.number) name in (g.0, g.1, omega (arith, g.2, at));
        olds = λ m kind there.
            let o = keeps.olds m kind (other_kind m (λ is. absurd (cc (sym kind ∙ is))) there) in
            let at : now.name.number ≡ next.number = ap (λ (n : Name). n.number) name in (
              omega (arith, o.0, at),
              λ c member. elim (one_more h.logs just_closed c member) as (λ _. c.number ≢ m.number) [
                | inl old ↦ o.1 c old
                | inr is ↦ λ same. let number : log.name.number ≡ c.number = ap (λ (x : ClosedLog). x.number) is in absurd (omega (arith, number, same, o.0))
              ],
            );
        stores = λ m kind there. keeps.stores m kind (other_kind m (λ is. absurd (cc (sym kind ∙ is))) there);
        found = keeps.found;
      }
