-- A commit, and what stands after it.
use Rattle.std.proofs.Common.{◌≡◌, ◌≤◌, ℕ, List, ◌++◌, Result, Ok, Err, Some, get_or, IsErr, IsTrue, OnOk, refl, sym, ap, ◌∙◌, subst, arith}
use Rattle.std.proofs.Math.Logic.{∥∥₁_map}
use Rattle.disk_images.specs.Calls.{IsTrueDisk}
use Rattle.disk_images.specs.Crash.{DiskView, Throughout, OnlyAt}
use Rattle.disk_images.specs.OneFile.{Touches}
use Rattle.disk_images.specs.declared.disk.Disk.{Ghosts}
use Rattle.chronicle_model.specs.Growth.{AppendsTo}
use Rattle.recovery_laws.specs.Kept.{lasts}
use Rattle.recovery_laws.proofs.Rising.{lasts_no_less, lasts-append}
use Rattle.log_file.specs.Open.{OpenLog, HasEither}
use Rattle.log_ledger.specs.Numbers.{Numbers, AreInOrder, AreStoresFew}
use Rattle.log_ledger.specs.Counted.{IsCounted}
use Rattle.log_ledger.specs.History.{History, committed_in}
use Rattle.log_device.specs.Bears.{Bears}
use Rattle.log_device.specs.Calls.{Syncs, SyncsNumbers}
use Rattle.log_device.specs.Keeps.{Keeps}
use Rattle.log_device.specs.declared.device.Device.{Device}
use Rattle.log_device.specs.Whole.{IsBroken, IsIdle, IsCommitted, IsAtRest, Breaks, NoneFell, disk_of, log_of, numbers_of, view_of, files_of, HasHistory, EachImage}
use Rattle.log_device.proofs.Appends.{commit_appends}
use Rattle.log_device.proofs.Calls.{commit_leaves}
use Rattle.log_device.proofs.Committed.{names_moments, commit_moments}
use Rattle.log_device.proofs.Numbering.{same_file}
use Rattle.log_device.proofs.Results.{some_apart}
use Rattle.log_device.proofs.Whole.{kept_file}

module _ {D : Type 0} (g : Ghosts D) (h : History) (old : Device D) (log : OpenLog) (its : log_of old ≡ Some log) (whole : HasHistory g old h) (w : DiskView) (sound : IsTrueDisk w)
    (over : Throughout (OnlyAt log.name (HasEither log.name h.current (h.current ++ h.kept.staged)) (view_of g old)) 4 (view_of g old) w) (touches : Touches log.name (view_of g old) w) where
  pub sync_appends : (file : OpenLog) → log_of old ≡ Some file → AppendsTo file.name.number (files_of g old) w.files
  sync_appends file is = subst (λ (f : OpenLog). AppendsTo f.name.number (files_of g old) w.files) (same_file log file (sym its ∙ is))
      (commit_appends log (view_of g old) h (numbers_of old).next_store (kept_file old (view_of g old) h log its whole) w sound over touches)

module _ {D : Type 0} (g : Ghosts D) (h : History) (old new : Device D) (log : OpenLog) (its : log_of old ≡ Some log) (whole : HasHistory g old h)
    (sound : IsTrueDisk (view_of g old)) (sound_after : IsTrueDisk (view_of g new))
    (over : Throughout (OnlyAt log.name (HasEither log.name h.current (h.current ++ h.kept.staged)) (view_of g old)) 4 (view_of g old) (view_of g new))
    (touches : Touches log.name (view_of g old) (view_of g new)) where
  keeps : Keeps log (view_of g old) h (numbers_of old).next_store
  keeps = kept_file old (view_of g old) h log its whole

  pub syncs : {E : Type 0} (result : Result ℕ E) → OnOk result (HasHistory g new (committed_in h)) → Syncs g h result old new
  syncs result committed = record {
    any_moment = commit_leaves log (view_of g old) h (numbers_of old) keeps whole.counted sound whole.told (view_of g new) (commit_moments log (view_of g old) h (numbers_of old).next_store keeps (view_of g new) over);
    names = λ file is. subst (λ (f : OpenLog). EachImage g (Bears h.kept.base (numbers_of old).next_store f.name.number) 4 old new) (same_file log file (sym its ∙ is))
        (names_moments log (view_of g old) h (numbers_of old).next_store keeps (HasEither log.name h.current (h.current ++ h.kept.staged)) 4 (view_of g new) over);
    committed = committed;
    lower = λ file is. (sync_appends g h old log its whole (view_of g new) sound_after over touches file is).lower;
  }

-- nothing is staged then
pub at_rest : {D E : Type 0} (g : Ghosts D) (n : ℕ) (old new : Device D) → (IsTrue g.told → (IsBroken old → ⊥) → ∥ ((h : History) × HasHistory g old h) ∥₁)
    → (IsTrue g.told → (h : History) → HasHistory g old h → HasHistory g new (committed_in h)) → AreInOrder (numbers_of old) → SyncsNumbers {E = E} (Ok n) old new → Breaks g (IsErr {T = ℕ} {E = E} (Ok n)) old new → IsAtRest g new
at_rest g n old new had now order numbers breaks = record {
  whole = λ told. ∥∥₁_map (had told (λ broken. unbroken (subst (λ d. IsBroken d) (sym (breaks.stays broken)) broken))) (λ r. (committed_in r.0, now told r.0 r.1, refl));
  unbroken = unbroken;
  idle = numbers.emptied;
  synced = ap (λ (b : Numbers). b.synced) numbers.synced ∙ sym (ap (λ (b : Numbers). b.drawn) numbers.synced);
  closed = λ r.
      let closed = ap (λ (b : Numbers). get_or b.closed r 0) numbers.synced in
      let synced = ap (λ (b : Numbers). get_or b.synced r 0) numbers.synced in
      omega (arith, closed, synced, (order.regions r).closed, (order.regions r).synced);
}
  where
    unbroken : IsBroken new → ⊥
    unbroken broken = absurd (cc (breaks.broken.1 broken))

-- the same history, where the ledger differs in what doesn't matter to it
pub same_history : {D : Type 0} (g : Ghosts D) (h : History) (old new : Device D) → disk_of new ≡ disk_of old → log_of new ≡ log_of old → (numbers_of new).next_store ≡ (numbers_of old).next_store → IsCounted (numbers_of new) h
    → ((r : ℕ) → get_or (numbers_of new).stored r 0 ≤ lasts h.kept.first h.kept.durable r) → HasHistory g old h → HasHistory g new h
same_history {D} g h old new disk log stores counted told whole = record {
  file = whole.file;
  is = log ∙ whole.is;
  keeps = subst (λ (ns : List ℕ). Keeps whole.file (view_of g new) h ns) (sym stores) (subst (λ (d : D). Keeps whole.file (g.view d) h (numbers_of old).next_store) (sym disk) whole.keeps);
  counted = counted;
  told = told;
}

-- nothing else is told
pub same_told : {D : Type 0} (g : Ghosts D) (h : History) (old : Device D) (stored : List ℕ) → stored ≡ (numbers_of old).stored → HasHistory g old h → (r : ℕ) → get_or stored r 0 ≤ lasts h.kept.first h.kept.durable r
same_told g h old stored same whole r = subst (λ (l : List ℕ). get_or l r 0 ≤ lasts h.kept.first h.kept.durable r) (sym same) (whole.told r)

-- what is told is committed still when more is
pub told_behind : {D : Type 0} (g : Ghosts D) (h : History) (old : Device D) (stored : List ℕ) → stored ≡ (numbers_of old).stored → HasHistory g old h → (r : ℕ) → get_or stored r 0 ≤ lasts h.kept.first (h.kept.durable ++ h.kept.staged) r
told_behind g h old stored same whole r =
    let was = same_told g h old stored same whole r in
    omega (arith, was, lasts_no_less (lasts h.kept.first h.kept.durable) h.kept.staged r whole.keeps.orderly.rising, lasts-append h.kept.first h.kept.durable h.kept.staged r)

-- a file in which nothing is staged
pub rest_file : {D : Type 0} (old new : Device D) → IsIdle (log_of old) → log_of new ≡ log_of old → (file : OpenLog) → log_of old ≡ Some file → IsCommitted file (log_of new)
rest_file old new idle same file is =
    let none = (idle file is).0 in
    (file, same ∙ is, refl, omega (arith, none), none)

-- ---- no number falls

pub none_fell : (old new : Numbers) → new.synced ≡ old.synced → new.stored ≡ old.stored → ((r : ℕ) → get_or old.closed r 0 ≤ get_or new.closed r 0) → NoneFell old new
none_fell old new synced stored closed = record {
  synced = λ r. subst (λ (l : List ℕ). get_or old.synced r 0 ≤ get_or l r 0) (sym synced) (omega arith);
  stored = λ r. subst (λ (l : List ℕ). get_or old.stored r 0 ≤ get_or l r 0) (sym stored) (omega arith);
  closed = closed;
}

pub none_fell_behind : (old mid new : Numbers) → mid ≡ record old { synced = old.drawn } → ((r : ℕ) → get_or old.synced r 0 ≤ get_or mid.synced r 0) → NoneFell mid new → NoneFell old new
none_fell_behind old mid new same rises said = record {
  synced = λ r. omega (arith, rises r, said.synced r);
  stored = λ r. subst (λ (b : Numbers). get_or b.stored r 0 ≤ get_or new.stored r 0) same (said.stored r);
  closed = λ r. subst (λ (b : Numbers). get_or b.closed r 0 ≤ get_or new.closed r 0) same (said.closed r);
}

-- a sync that failed, where an entry was staged or the device was broken
pub faulty_syncs : {D E : Type 0} (e : E) (old new : Device D) → IsBroken new → numbers_of new ≡ numbers_of old → ((file : OpenLog) → log_of old ≡ Some file → file.staged ≡ 0 → ⊥) → SyncsNumbers (Err e) old new
faulty_syncs e old new broken same some = record {
  count = λ file is. tt;
  idle = λ file is none. absurd (some file is none);
  file = λ file is. tt;
  emptied = λ file is. absurd (some_apart (sym broken ∙ is));
  synced = tt;
  faulty = same;
  never_falls = λ r. let is = ap (λ (b : Numbers). get_or b.synced r 0) same in omega (arith, is);
  few = λ limit was. subst (λ (b : Numbers). AreStoresFew limit b) (sym same) was;
}
