-- What a roll leaves, from step to step.
use Rattle.std.proofs.Common.{◌≡◌, ◌≢◌, ◌+◌, ◌<◌, ℕ, List, [], length, Result, Err, Some, IsErr, OnOk, OnErr, IfOk, sym, ap, ◌∙◌, subst, arith}
use Rattle.log_model.specs.declared.name.Name.{Name}
use Rattle.chronicle_model.specs.Chronicle.{bytes_of}
use Rattle.chronicle_model.specs.Growth.{AppendsTo, LowerLogsStay}
use Rattle.disk_images.specs.Calls.{IsTrueDisk}
use Rattle.disk_images.specs.Crash.{Throughout}
use Rattle.disk_images.specs.declared.disk.Disk.{Ghosts}
use Rattle.disk_images.proofs.Moments.{at_once, joined, more_time, weaker}
use Rattle.log_file.specs.Open.{OpenLog}
use Rattle.seq_accounting.specs.Accounts.{Accounts}
use Rattle.log_ledger.specs.Numbers.{Numbers}
use Rattle.log_ledger.specs.Counted.{IsCounted}
use Rattle.log_ledger.specs.History.{History, committed_in, closed_in}
use Rattle.log_device.specs.Bears.{Bears}
use Rattle.log_device.specs.Calls.{Syncs, Rolls, RollsFrom, BeginsNext}
use Rattle.log_device.specs.Keeps.{Between, IsInOrder, log_name}
use Rattle.log_device.specs.Leaves.{Leaves}
use Rattle.log_device.specs.declared.device.Device.{Device}
use Rattle.log_device.specs.declared.error.Rolled.{Rolled}
use Rattle.log_device.specs.declared.error.RollRefusal.{RollRefusal}
use Rattle.log_device.specs.declared.error.RollRefusal.TheVariants as refusals
use Rattle.log_device.specs.Whole.{IsBroken, IsCommitted, LeavesAt, disk_of, log_of, numbers_of, view_of, files_of, HasHistory, EachImage}
use Rattle.log_device.proofs.Bearing.{bears_on, still_names}
use Rattle.log_device.proofs.Calls.{still_leaves, roll_leaves, leaves_behind, none_next}
use Rattle.log_device.proofs.Numbering.{same_file}
use Rattle.log_device.proofs.Results.{none_of, on_any}
use Rattle.log_device.proofs.Syncing.{same_history, same_told}
use Rattle.log_device.proofs.Whole.{kept_file}

pub nothing_same : (a b : ℕ) → ◌≡◌ {A = Result Rolled RollRefusal} (Err (refusals.NothingToRoll a)) (Err (refusals.NothingToRoll b)) → a ≡ b
nothing_same a b is = cc is

pub memory_apart : (n : ℕ) → refusals.Memory ≡ refusals.NothingToRoll n → ⊥
memory_apart n is = absurd (cc is)

pub fault_apart : (n : ℕ) → refusals.WriteFault ≡ refusals.NothingToRoll n → ⊥
fault_apart n is = absurd (cc is)

pub fault_not_memory : refusals.WriteFault ≡ refusals.Memory → ⊥
fault_not_memory is = absurd (cc is)

pub some_entries : (n k : ℕ) → n ≡ k → n ≢ 0 → 0 < k
some_entries n k is some = omega (arith, is, some)

-- ---- a place for the next file was made sure of

pub reserved_as : (old now new : Numbers) → now ≡ old → new ≡ record now { accounts = record now.accounts { room = new.accounts.room } } → new ≡ record old { accounts = record old.accounts { room = new.accounts.room } }
reserved_as old now new is same = same ∙ ap (λ (b : Numbers). record b { accounts = record b.accounts { room = new.accounts.room } }) is

pub reserved : {D : Type 0} (g : Ghosts D) (h : History) (old mid : Device D) {a : Accounts} (now : Numbers) → disk_of mid ≡ disk_of old → log_of mid ≡ log_of old → numbers_of mid ≡ record (numbers_of old) { accounts = a } → now ≡ numbers_of old
    → ((k : History) → IsCounted now k → IsCounted (numbers_of mid) k) → HasHistory g old h → HasHistory g mid h
reserved g h old mid now disk log same is counted whole =
    same_history g h old mid disk log (ap (λ (b : Numbers). b.next_store) same) (counted h (subst (λ (b : Numbers). IsCounted b h) (sym is) whole.counted)) (same_told g h old (numbers_of mid).stored (ap (λ (b : Numbers). b.stored) same) whole) whole

-- ---- the disk

-- the next file was begun, or that was tried
pub begins_next : {D T E : Type 0} (g : Ghosts D) (h : History) (result : Result T E) (old new : Device D) (log file : OpenLog) → IsTrueDisk (view_of g old) → HasHistory g old h → log_of old ≡ Some log → log_of old ≡ Some file
    → Throughout (Between h.kept log.name h.current h.kept (log_name (log.name.number + 1)) []) 7 (view_of g old) (view_of g new) → Throughout (Bears h.kept.base (numbers_of old).next_store (log.name.number + 1)) 7 (view_of g old) (view_of g new)
    → Throughout (IsInOrder log.name (log_name (log.name.number + 1)) h.current) 7 (view_of g old) (view_of g new) → AppendsTo log.name.number (files_of g old) (files_of g new)
    → OnOk result (HasHistory g new (closed_in h log.name.number)) → BeginsNext g h file result old new
begins_next g h result old new log file sound whole its is over names in_order appends closed =
    subst (λ (f : OpenLog). BeginsNext g h f result old new) (same_file log file (sym its ∙ is))
    (record {
      any_moment = roll_leaves log (view_of g old) h (numbers_of old) (kept_file old (view_of g old) h log its whole) whole.counted sound (log.name.number + 1) 7 (view_of g new) over;
      names = names;
      in_order = in_order;
      appends = appends;
      closed = closed;
    })

-- it made no disk call
pub still_rolls : {D : Type 0} (g : Ghosts D) (h : History) (result : Result Rolled RollRefusal) (old new : Device D) → IsTrueDisk (view_of g old) → HasHistory g old h → disk_of new ≡ disk_of old → IsErr result → HasHistory g new h
    → RollsFrom g 7 [] h result old new
still_rolls {D} g h result old new sound whole same failed history =
    let v = view_of g old in
    let ns = (numbers_of old).next_store in record {
      any_moment =
          more_time (LeavesAt g old []) 0 7 v (view_of g new) (omega arith)
          (subst (λ (d : D). Throughout (LeavesAt g old []) 0 v (g.view d)) (sym same) (still_leaves whole.file v h (numbers_of old) whole.keeps whole.counted sound));
      names = λ file is.
          subst (λ (d : D). Throughout (Bears h.kept.base ns (file.name.number + 1)) 7 v (g.view d)) (sym same) (still_names file v h ns (kept_file old v h file is whole) (file.name.number + 1) 7 (omega arith));
      in_order = λ file is.
          more_time (IsInOrder file.name (log_name (file.name.number + 1)) h.current) 0 7 v (view_of g new) (omega arith)
          (subst (λ (d : D). Throughout (IsInOrder file.name (log_name (file.name.number + 1)) h.current) 0 v (g.view d)) (sym same)
          (at_once (IsInOrder file.name (log_name (file.name.number + 1)) h.current) v
          (λ J now. none_next h.kept.base ns file.name.number file.name h.current J ((kept_file old v h file is whole).names J now))));
      rolled = none_of result (λ rolled. HasHistory g new (closed_in h rolled.closed) × (rolled.entries ≡ length h.current)) failed;
      refused = on_any {P = (IsBroken new → ⊥) → HasHistory g new h} result (λ unbroken. history);
      lower = λ file is k low. ap (λ (d : D). bytes_of (g.view d).files k) same;
    }

-- the next file was begun, or that was tried, after what changed no file
pub rolls_by : {D T E : Type 0} (g : Ghosts D) (h : History) (first : Result T E) (result : Result Rolled RollRefusal) (old mid new : Device D) (whole : HasHistory g old h) → disk_of mid ≡ disk_of old → (numbers_of mid).stored ≡ (numbers_of old).stored
    → (numbers_of mid).closed ≡ (numbers_of old).closed → (numbers_of mid).next_store ≡ (numbers_of old).next_store → BeginsNext g h whole.file first mid new
    → IfOk result (λ rolled. HasHistory g new (closed_in h rolled.closed) × (rolled.entries ≡ length h.current)) → OnErr result ((IsBroken new → ⊥) → HasHistory g new h) → RollsFrom g 7 [] h result old new
rolls_by {D} g h first result old mid new whole disk stored closed stores begins rolled refused =
    let v = view_of g mid in
    let w = view_of g new in
    let n = whole.file.name.number in record {
      any_moment =
          subst (λ (d : D). Throughout (Leaves (numbers_of old).stored (numbers_of old).closed (g.view d).files []) 7 (g.view d) w) disk
          (subst (λ (p : List ℕ × List ℕ). Throughout (Leaves p.0 p.1 v.files []) 7 v w) (λ i. (stored i, closed i)) begins.any_moment);
      names = λ file is.
          subst (λ (f : OpenLog). EachImage g (Bears h.kept.base (numbers_of old).next_store (f.name.number + 1)) 7 old new) (same_file whole.file file (sym whole.is ∙ is))
          (subst (λ (d : D). Throughout (Bears h.kept.base (numbers_of old).next_store (n + 1)) 7 (g.view d) w) disk
          (subst (λ (l : List ℕ). Throughout (Bears h.kept.base l (n + 1)) 7 v w) stores begins.names));
      in_order = λ file is.
          subst (λ (f : OpenLog). EachImage g (IsInOrder f.name (log_name (f.name.number + 1)) h.current) 7 old new) (same_file whole.file file (sym whole.is ∙ is))
          (subst (λ (d : D). Throughout (IsInOrder whole.file.name (log_name (n + 1)) h.current) 7 (g.view d) w) disk begins.in_order);
      rolled = rolled;
      refused = refused;
      lower = λ file is.
          subst (λ (f : OpenLog). LowerLogsStay f.name.number (files_of g old) (files_of g new)) (same_file whole.file file (sym whole.is ∙ is))
          (subst (λ (d : D). LowerLogsStay n (g.view d).files w.files) disk begins.appends.lower);
    }

module _ {D E : Type 0} (g : Ghosts D) (h : History) (first : Result ℕ E) (old mid : Device D) (sync : Syncs g h first old mid) where
  -- the names of a commit, and of what comes after it
  more_names : (file : OpenLog) → log_of old ≡ Some file → EachImage g (Bears h.kept.base (numbers_of old).next_store (file.name.number + 1)) 4 old mid
  more_names file is =
      let ns = (numbers_of old).next_store in
      weaker (Bears h.kept.base ns file.name.number) (Bears h.kept.base ns (file.name.number + 1)) 4 (view_of g old) (view_of g mid)
      (λ J bears. bears_on h.kept.base ns ns file.name.number (file.name.number + 1) J (omega arith) (λ r. omega arith) bears) (sync.names file is)

  none_begun : (entries : History) (file : OpenLog) → log_of old ≡ Some file → EachImage g (IsInOrder file.name (log_name (file.name.number + 1)) entries.current) 4 old mid
  none_begun entries file is =
      let ns = (numbers_of old).next_store in
      weaker (Bears h.kept.base ns file.name.number) (IsInOrder file.name (log_name (file.name.number + 1)) entries.current) 4 (view_of g old) (view_of g mid)
      (λ J bears. none_next h.kept.base ns file.name.number file.name entries.current J bears) (sync.names file is)

  -- the commit failed
  pub failed_rolls : (result : Result Rolled RollRefusal) → IsErr result → IsBroken mid → Rolls g h result old mid
  failed_rolls result failed broken =
      let u = view_of g old in
      let v = view_of g mid in record {
        any_moment = more_time (LeavesAt g old h.kept.staged) 4 11 u v (omega arith) sync.any_moment;
        names = λ file is. more_time (Bears h.kept.base (numbers_of old).next_store (file.name.number + 1)) 4 11 u v (omega arith) (more_names file is);
        in_order = λ file is. more_time (IsInOrder file.name (log_name (file.name.number + 1)) (committed_in h).current) 4 11 u v (omega arith) (none_begun (committed_in h) file is);
        rolled = none_of result (λ rolled. HasHistory g mid (closed_in (committed_in h) rolled.closed) × (rolled.entries ≡ length (committed_in h).current)) failed;
        refused = on_any {P = (IsBroken mid → ⊥) → HasHistory g mid (committed_in h)} result (λ unbroken. absurd (unbroken broken));
        lower = sync.lower;
      }

  -- after the commit
  pub rolls_behind : (result : Result Rolled RollRefusal) (new : Device D) → IsTrueDisk (view_of g old) → IsTrueDisk (view_of g mid) → HasHistory g old h → HasHistory g mid (committed_in h)
      → numbers_of mid ≡ record (numbers_of old) { synced = (numbers_of old).drawn } → ((file : OpenLog) → log_of old ≡ Some file → IsCommitted file (log_of mid)) → RollsFrom g 7 [] (committed_in h) result mid new → Rolls g h result old new
  rolls_behind result new sound sound_mid whole now same files said =
      let u = view_of g old in
      let v = view_of g mid in
      let w = view_of g new in
      let ns = (numbers_of old).next_store in
      let stores : (numbers_of mid).next_store ≡ ns = ap (λ (b : Numbers). b.next_store) same in
      let like = (now.keeps.images v.files sound_mid.reads).like in record {
        any_moment =
            joined (LeavesAt g old h.kept.staged) 4 7 u v w sync.any_moment
            (weaker (LeavesAt g mid []) (LeavesAt g old h.kept.staged) 7 v w
            (λ J left. leaves_behind whole.file u h (numbers_of old) whole.keeps whole.counted sound v like J (subst (λ (b : Numbers). Leaves b.stored b.closed v.files [] J) same left)) said.any_moment);
        names = λ file is.
            let its = files file is in
            joined (Bears h.kept.base ns (file.name.number + 1)) 4 7 u v w (more_names file is)
            (subst (λ (p : List ℕ × ℕ). Throughout (Bears h.kept.base p.0 (p.1 + 1)) 7 v w) (λ i. (stores i, (its.2 i).number)) (said.names its.0 its.1));
        in_order = λ file is.
            let its = files file is in
            joined (IsInOrder file.name (log_name (file.name.number + 1)) (committed_in h).current) 4 7 u v w (none_begun (committed_in h) file is)
            (subst (λ (n : Name). Throughout (IsInOrder n (log_name (n.number + 1)) (committed_in h).current) 7 v w) its.2 (said.in_order its.0 its.1));
        rolled = said.rolled;
        refused = said.refused;
        lower = λ file is k low.
            let its = files file is in
            let number : its.0.name.number ≡ file.name.number = ap (λ (n : Name). n.number) its.2 in
            said.lower its.0 its.1 k (omega (arith, number, low)) ∙ sync.lower file is k low;
      }
