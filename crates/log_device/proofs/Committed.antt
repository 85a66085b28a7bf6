-- What a commit leaves of what is kept.
use Rattle.std.proofs.Common.{◌≡◌, ◌⊎◌, inl, inr, ℕ, ◌<◌, List, [], ◌++◌, length-append, Contains, Option, None, refl, sym, ap, ◌∙◌, subst, arith}
use Rattle.std.proofs.lemmas.List.{append-nil}
use Rattle.log_model.specs.declared.name.Name.{Name}
use Rattle.log_model.specs.Entry.{Entry}
use Rattle.log_model.specs.LogText.{IsEntryOf, in_version}
use Rattle.log_model.specs.Files.{Files, content, key_of, SameBut, HoldsEntries}
use Rattle.log_model.specs.Recovered.{HasFamily}
use Rattle.disk_images.specs.Crash.{DiskView, IsImageNow, Throughout, OnlyAt}
use Rattle.disk_images.specs.OneFile.{Touches}
use Rattle.disk_images.proofs.Moments.{weaker, at_end}
use Rattle.recovery_laws.specs.Change.{HasText}
use Rattle.recovery_laws.specs.Kept.{committed}
use Rattle.recovery_laws.proofs.Names.{name_cases}
use Rattle.recovery_laws.proofs.Lists.{entries_in, some_family}
use Rattle.recovery_laws.proofs.Logs.{grown}
use Rattle.recovery_laws.proofs.Likes.{staged_fresh, none_fresh, like_committed, like_same, orderly_committed}
use Rattle.log_file.specs.Open.{OpenLog, IsOpen, IsStaged, HasEither}
use Rattle.log_file.proofs.Committed.{rest_has}
use Rattle.log_ledger.specs.History.{ClosedLog, History, committed_in}
use Rattle.log_device.specs.Bears.{Bears}
use Rattle.log_device.specs.Keeps.{Keeps, Shows, Between, IsUpTo, log_name}
use Rattle.log_device.proofs.Bearing.{bears_log}
use Rattle.log_device.proofs.Disk.{still_closed, present_before, up_to_but}

-- each staged entry has a cell
staged_given : (log : OpenLog) (es : List Entry) → IsStaged log es → (e : Entry) → Contains es e → (f : List ℕ) × HasFamily e f
staged_given log es staged e has = some_family e (entries_in (IsEntryOf (in_version 2 (key_of log.name))) es e staged.each has).entry.batch.given

module _ (log : OpenLog) (v : DiskView) (h : History) (ns : List ℕ) (keeps : Keeps log v h ns) where
  holds : HoldsEntries log.name.kind
  holds = inl keeps.kind

  -- what the current file has in an image
  pub had : (I : Files) → IsImageNow v I → HasText log.name h.current None (content I log.name)
  had I there = rest_has log.name h.current (content I log.name) keeps.open_log.each (keeps.open_log.file.durable I there)

  pub up_to_here : (I J : Files) → IsImageNow v I → SameBut log.name I J → IsUpTo log.name.number J
  up_to_here I J there same = up_to_but log.name log.name.number I J same (λ kind. (keeps.region, omega arith)) (keeps.images I there).up_to

  -- nothing was added
  pub same_log : (J : Files) (ended : Option ℕ) (I : Files) → IsImageNow v I → SameBut log.name I J → HasText log.name h.current ended (content J log.name) → Shows h.kept log.name h.current J
  same_log J ended I there same text = record {
    like = like_same h.kept I J (keeps.images I there).like (grown log.name holds I J same h.current [] h.current (sym (append-nil h.current)) (inl (None, had I there)) (inl (ended, text)) (keeps.images I there).like.fit (none_fresh I));
    ended = ended;
    text = text;
    up_to = up_to_here I J there same;
  }

  -- the batch was added
  more_log : (J I : Files) → IsImageNow v I → SameBut log.name I J → HasText log.name (h.current ++ h.kept.staged) None (content J log.name) → Shows (committed h.kept) log.name (h.current ++ h.kept.staged) J
  more_log J I there same text = record {
    like = like_committed h.kept I J (keeps.images I there).like keeps.orderly
        (grown log.name holds I J same h.current h.kept.staged (h.current ++ h.kept.staged) refl (inl (None, had I there)) (inl (None, text)) (keeps.images I there).like.fit (staged_fresh h.kept I (keeps.images I there).like keeps.orderly));
    ended = None;
    text = text;
    up_to = up_to_here I J there same;
  }

  names_in : (J : Files) → (I : Files) → IsImageNow v I → SameBut log.name I J → Bears h.kept.base ns log.name.number J
  names_in J I there same = bears_log h.kept.base ns log.name I J keeps.kind keeps.region same (keeps.names I there)

  -- a write to the current file changes no name
  pub names_moments : (Q : Option (List ℕ) → Type 0) (by : ℕ) (w : DiskView) → Throughout (OnlyAt log.name Q v) by v w → Throughout (Bears h.kept.base ns log.name.number) by v w
  names_moments Q by w over = weaker (OnlyAt log.name Q v) (Bears h.kept.base ns log.name.number) by v w (λ J only. names_in J only.base only.was only.elsewhere) over

  abbrev pub Committing : Files → Type 0
  Committing J = Between h.kept log.name h.current (committed h.kept) log.name (h.current ++ h.kept.staged) J

  one_image : (J : Files) → OnlyAt log.name (HasEither log.name h.current (h.current ++ h.kept.staged)) v J → Committing J
  one_image J only = elim only.here as (λ _. Committing J) [
    | inl before ↦ inl (same_log J None only.base only.was only.elsewhere before)
    | inr after ↦ inr (more_log J only.base only.was only.elsewhere after)
  ]

  pub commit_moments : (w : DiskView) → Throughout (OnlyAt log.name (HasEither log.name h.current (h.current ++ h.kept.staged)) v) 4 v w → Throughout Committing 4 v w
  commit_moments w over = weaker (OnlyAt log.name (HasEither log.name h.current (h.current ++ h.kept.staged)) v) Committing 4 v w one_image over

  pub commit_kept : (after : OpenLog) (w : DiskView) → after.name ≡ log.name → Throughout (OnlyAt log.name (HasEither log.name h.current (h.current ++ h.kept.staged)) v) 4 v w → Touches log.name v w
      → IsOpen after w (h.current ++ h.kept.staged) → IsStaged after [] → Keeps after w (committed_in h) ns
  commit_kept after w same over touches is_open none = record {
    kind = ap (λ (n : Name). n.kind) same ∙ keeps.kind;
    region = ap (λ (n : Name). n.region) same ∙ keeps.region;
    open_log = is_open;
    staged = none;
    orderly = orderly_committed h.kept keeps.orderly (staged_given log h.kept.staged keeps.staged);
    images = λ J now.
        let only = at_end (OnlyAt log.name (HasEither log.name h.current (h.current ++ h.kept.staged)) v) 4 v w over J now in
        subst (λ (n : Name). Shows (committed h.kept) n (h.current ++ h.kept.staged) J) (sym same)
        (more_log J only.base only.was only.elsewhere (subst (λ (n : Name). HasText n (h.current ++ h.kept.staged) None (content J n)) same (rest_has after.name (h.current ++ h.kept.staged) (content J after.name) is_open.each (is_open.file.durable J now))));
    names = λ J now.
        let only = at_end (OnlyAt log.name (HasEither log.name h.current (h.current ++ h.kept.staged)) v) 4 v w over J now in
        subst (λ (n : ℕ). Bears h.kept.base ns n J) (sym (ap (λ (m : Name). m.number) same)) (names_in J only.base only.was only.elsewhere);
    served = keeps.served;
    few = λ n found.
        let at : after.name.number ≡ log.name.number = ap (λ (m : Name). m.number) same in
        omega (arith, keeps.few n found, at, is_open.count, none.count, keeps.open_log.count, keeps.staged.count, length-append h.current h.kept.staged, length-append h.kept.durable h.kept.staged, length-append (h.kept.durable ++ h.kept.staged) []);
    logs = λ c member.
        let old = keeps.logs c member in
        (still_closed log.name (HasEither log.name h.current (h.current ++ h.kept.staged)) 4 v w c.number c.entries (λ is. let at : c.number ≡ log.name.number = ap (λ (n : Name). n.number) is in omega (arith, at, old.1)) over touches old.0, at_name c.number old.1);
    one = keeps.one;
    there = λ m kind there. elim (name_cases m log.name) as (λ _. (m ≡ after.name) ⊎ ((c : ClosedLog) × Contains h.logs c × (log_name c.number ≡ m))) [
      | inl is ↦ inl (is ∙ sym same)
      | inr apart ↦ elim (keeps.there m kind (present_before log.name m v.files w.files touches.others apart there)) as (λ _. (m ≡ after.name) ⊎ ((c : ClosedLog) × Contains h.logs c × (log_name c.number ≡ m))) [
        | inl is ↦ inl (is ∙ sym same)
        | inr one ↦ inr one
      ]
    ];
    gone = λ m is. let g = keeps.gone m (touches.gone m is) in (g.0, g.1, at_name m.number g.2);
    olds = λ m kind there.
        let o = keeps.olds m kind (present_before log.name m v.files w.files touches.others (λ is. absurd (cc (sym kind ∙ ap (λ (n : Name). n.kind) is ∙ keeps.kind))) there) in
        (at_name m.number o.0, o.1);
    stores = λ m kind there. keeps.stores m kind (present_before log.name m v.files w.files touches.others (λ is. absurd (cc (sym kind ∙ ap (λ (n : Name). n.kind) is ∙ keeps.kind))) there);
    found = keeps.found;
  }
    where
      at_name : (n : ℕ) → n < log.name.number → n < after.name.number
      at_name n low = let at : after.name.number ≡ log.name.number = ap (λ (m : Name). m.number) same in omega (arith, low, at)
