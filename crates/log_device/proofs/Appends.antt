-- What a call leaves of the logs, by their numbers.
use Rattle.std.proofs.Common.{◌≡◌, ◌≢◌, inl, inr, ℕ, ◌+◌, ◌<◌, ◌≤◌, List, [], ◌++◌, length, Option, Some, None, refl, sym, ap, ◌∙◌, subst, arith}
use Rattle.std.proofs.lemmas.Bool.{cases_eq, cases_order}
use Rattle.std.proofs.lemmas.List.{append-nil}
use Rattle.cell_model.specs.Join.{or_else}
use Rattle.log_model.specs.declared.name.Name.{Name}
use Rattle.log_model.specs.declared.name.NameKind.TheVariants as kinds
use Rattle.log_model.specs.Entry.{Entry}
use Rattle.log_model.specs.Files.{Files, content, SameBut, IsPresent}
use Rattle.chronicle_model.specs.Chronicle.{bytes_of, HasLog}
use Rattle.chronicle_model.specs.Growth.{LogsStay, LowerLogsStay, AppendsTo, IsGoingOn}
use Rattle.chronicle_model.proofs.Grown.{not_there, one_end, appends_none, appends_and_stays}
use Rattle.disk_images.specs.Crash.{DiskView, Throughout, OnlyAt}
use Rattle.disk_images.specs.Calls.{IsTrueDisk}
use Rattle.disk_images.specs.OneFile.{Touches, IsDurableFile}
use Rattle.disk_images.specs.Moved.{HasEitherName, TouchesBoth}
use Rattle.disk_images.proofs.Moments.{at_end}
use Rattle.recovery_laws.specs.Change.{HasText}
use Rattle.recovery_laws.proofs.Logs.{none_some}
use Rattle.log_file.specs.Open.{OpenLog, HasEither, HasEnding}
use Rattle.log_file.proofs.Committed.{rest_has}
use Rattle.log_ledger.specs.History.{History}
use Rattle.log_device.specs.Keeps.{Keeps, log_name, old_name}

-- ---- one file is worked on

touched : (name : Name) (old new : Files) (k : ℕ) → SameBut name old new → log_name k ≢ name → old_name k ≢ name → bytes_of new k ≡ bytes_of old k
touched name old new k others log was i = or_else (others (log_name k) log i) (others (old_name k) was i)

-- logs below its number stay
pub lower_stay : (n : ℕ) (name : Name) (old new : Files) → n ≤ name.number → SameBut name old new → LowerLogsStay n old new
lower_stay n name old new high others k low = touched name old new k others (λ is. far (ap (λ (m : Name). m.number) is)) (λ is. far (ap (λ (m : Name). m.number) is))
  where
    far : k ≡ name.number → ⊥
    far same = omega (arith, high, low, same)

-- where it is a store each log stays
pub store_stays : (name : Name) (old new : Files) → name.kind ≡ kinds.Store → SameBut name old new → LogsStay old new
store_stays name old new store others k =
    touched name old new k others (λ is. absurd (cc (ap (λ (m : Name). m.kind) is ∙ store))) (λ is. absurd (cc (ap (λ (m : Name). m.kind) is ∙ store)))

-- ---- a log is renamed

module _ (n : ℕ) (u v : DiskView) (bytes : List ℕ) (sound : IsTrueDisk v) (file : IsDurableFile u (log_name n) bytes)
    (over : Throughout (HasEitherName (log_name n) (old_name n) bytes u) 1 u v) (touches : TouchesBoth (log_name n) (old_name n) u v) where
  reads_now : bytes_of v.files n ≡ Some bytes
  reads_now = elim (at_end (HasEitherName (log_name n) (old_name n) bytes u) 1 u v over v.files sound.reads).here as (λ _. bytes_of v.files n ≡ Some bytes) [
    | inl stays ↦ ap (λ o. or_else o (content v.files (old_name n))) stays.0
    | inr moves ↦ ap (λ o. or_else o (content v.files (old_name n))) moves.0 ∙ moves.1
  ]

  other_log : (k : ℕ) → (k ≡ n → ⊥) → (name : Name) → name.number ≡ k → content v.files name ≡ content u.files name
  other_log k other name number = touches.others name (λ is. other (sym number ∙ ap (λ (m : Name). m.number) is)) (λ is. other (sym number ∙ ap (λ (m : Name). m.number) is))

  -- it has its number still
  pub renamed_stay : LogsStay u.files v.files
  renamed_stay k = elim (cases_eq k n) as (λ _. bytes_of v.files k ≡ bytes_of u.files k) [
    | inl same ↦ subst (λ (j : ℕ). bytes_of v.files j ≡ bytes_of u.files j) (sym same) (reads_now ∙ sym (ap (λ o. or_else o (content u.files (old_name n))) file.reads))
    | inr other ↦ (λ i. or_else (other_log k other (log_name k) refl i) (other_log k other (old_name k) refl i))
  ]

-- ---- the current log

has_log : (name : Name) (files : Files) (es : List Entry) (ended : Option ℕ) → name ≡ log_name name.number → HasText name es ended (content files name) → HasLog files name.number es ended
has_log name files es ended its text =
    let at : HasText (log_name name.number) es ended (content files (log_name name.number)) = subst (λ (m : Name). HasText m es ended (content files m)) its text in
    (at.bytes, ap (λ o. or_else o (content files (old_name name.number))) at.there, at.text)

module _ (log : OpenLog) (v : DiskView) (h : History) (ns : List ℕ) (keeps : Keeps log v h ns) where
  its_name : log.name ≡ log_name log.name.number
  its_name i = record { kind = keeps.kind i; region = keeps.region i; number = log.name.number }

  not_present : (name : Name) → (IsPresent v.files name → ⊥) → content v.files name ≡ None
  not_present name none_there = of_image (content v.files name) refl
    where
      of_image : (image : Option (List ℕ)) → content v.files name ≡ image → content v.files name ≡ None
      of_image None is = is
      of_image (Some bytes) is = absurd (none_there (λ none. none_some (content v.files name) bytes none is))

  none_above : (k : ℕ) → log.name.number < k → bytes_of v.files k ≡ None
  none_above k high i = or_else (not_present (log_name k) no_log i) (not_present (old_name k) no_old i)
    where
      no_log : IsPresent v.files (log_name k) → ⊥
      no_log there = elim (keeps.there (log_name k) refl there) as (λ _. ⊥) [
        | inl is ↦ let at : k ≡ log.name.number = ap (λ (m : Name). m.number) is in omega (arith, at, high)
        | inr one ↦ let at : one.0.number ≡ k = ap (λ (m : Name). m.number) one.2 in omega (arith, at, (keeps.logs one.0 one.1).1, high)
      ]

      no_old : IsPresent v.files (old_name k) → ⊥
      no_old there = omega (arith, (keeps.olds (old_name k) refl there).0, high)

  had_now : HasLog v.files log.name.number h.current None
  had_now = has_log log.name v.files h.current None its_name (rest_has log.name h.current (content v.files log.name) keeps.open_log.each keeps.open_log.file.reads)

  -- it is the highest one, and has no end
  pub kept_goes_on : IsGoingOn v.files
  kept_goes_on number es ended its highest = elim (cases_order number log.name.number) as (λ _. ended ≡ None) [
    | inl same ↦ one_end v.files log.name.number es h.current ended None (subst (λ (k : ℕ). HasLog v.files k es ended) same its) had_now
    | inr (inl low) ↦ absurd (not_there (bytes_of v.files log.name.number) had_now.0 (highest log.name.number low) had_now.1)
    | inr (inr high) ↦ absurd (not_there (bytes_of v.files number) its.0 (none_above number high) its.1)
  ]

  pub appends_nothing : AppendsTo log.name.number v.files v.files
  appends_nothing = appends_none log.name.number v.files h.current None none_above had_now

  pub appends_where_logs_stay : (new : Files) → LogsStay v.files new → AppendsTo log.name.number v.files new
  appends_where_logs_stay new stay = appends_and_stays log.name.number v.files v.files new appends_nothing (λ k low. stay k)

  grown_by : (w : DiskView) (more : List Entry) (ended : Option ℕ) → SameBut log.name v.files w.files → HasText log.name (h.current ++ more) ended (content w.files log.name) → AppendsTo log.name.number v.files w.files
  grown_by w more ended others text = record {
    highest = none_above;
    lower = lower_stay log.name.number log.name v.files w.files (omega arith) others;
    entries = h.current;
    ended = None;
    had = had_now;
    more = more;
    ended_now = ended;
    has = has_log log.name w.files (h.current ++ more) ended its_name text;
  }

  same_entries : (w : DiskView) (ended : Option ℕ) → SameBut log.name v.files w.files → HasText log.name h.current ended (content w.files log.name) → AppendsTo log.name.number v.files w.files
  same_entries w ended others text = grown_by w [] ended others (subst (λ (es : List Entry). HasText log.name es ended (content w.files log.name)) (sym (append-nil h.current)) text)

  -- a commit appends what was staged, or nothing
  pub commit_appends : (w : DiskView) → IsTrueDisk w → Throughout (OnlyAt log.name (HasEither log.name h.current (h.current ++ h.kept.staged)) v) 4 v w → Touches log.name v w → AppendsTo log.name.number v.files w.files
  commit_appends w sound over touches =
      elim (at_end (OnlyAt log.name (HasEither log.name h.current (h.current ++ h.kept.staged)) v) 4 v w over w.files sound.reads).here as (λ _. AppendsTo log.name.number v.files w.files) [
        | inl before ↦ same_entries w None touches.others before
        | inr after ↦ grown_by w h.kept.staged None touches.others after
      ]

  -- its end appends nothing
  pub end_appends : (w : DiskView) → IsTrueDisk w → Throughout (OnlyAt log.name (HasEnding log.name h.current) v) 4 v w → Touches log.name v w → AppendsTo log.name.number v.files w.files
  end_appends w sound over touches = elim (at_end (OnlyAt log.name (HasEnding log.name h.current) v) 4 v w over w.files sound.reads).here as (λ _. AppendsTo log.name.number v.files w.files) [
    | inl text ↦ same_entries w None touches.others text
    | inr text ↦ same_entries w (Some (length h.current)) touches.others text
  ]

  -- nor does the next log's begin
  pub roll_appends : (w x : DiskView) → IsTrueDisk w → Throughout (OnlyAt log.name (HasEnding log.name h.current) v) 4 v w → Touches log.name v w → Touches (log_name (log.name.number + 1)) w x → AppendsTo log.name.number v.files x.files
  roll_appends w x sound over touches touches_next =
      appends_and_stays log.name.number v.files w.files x.files (end_appends w sound over touches)
      (lower_stay (log.name.number + 1) (log_name (log.name.number + 1)) w.files x.files (omega arith) touches_next.others)
