-- What a flush leaves, from step to step.
use Rattle.std.proofs.Common.{◌≡◌, ◌+◌, ℕ, List, [], Option, Result, Ok, Err, Some, get_or, IsErr, IfOk, sym, ap, ◌∙◌, subst, arith}
use Rattle.std.specs.Prelude.{IsErrAnd}
use Rattle.log_model.specs.declared.name.Name.{Name}
use Rattle.chronicle_model.specs.Chronicle.{bytes_of}
use Rattle.disk_images.specs.Calls.{IsTrueDisk}
use Rattle.disk_images.specs.Crash.{Throughout}
use Rattle.disk_images.specs.declared.disk.Disk.{Ghosts}
use Rattle.disk_images.proofs.Moments.{joined, weaker}
use Rattle.log_file.specs.Open.{OpenLog}
use Rattle.log_ledger.specs.Numbers.{Numbers}
use Rattle.log_ledger.specs.Counted.{HasUnflushed}
use Rattle.log_ledger.specs.History.{History, committed_in, flushed_in, family_in}
use Rattle.recovery_laws.specs.Kept.{lasts}
use Rattle.log_device.specs.Bears.{Bears}
use Rattle.log_device.specs.Calls.{Syncs, Flushes, FlushesFrom}
use Rattle.log_device.specs.Flushed.{NoneKept, HasStore}
use Rattle.log_device.specs.Leaves.{Leaves}
use Rattle.log_device.specs.declared.device.Device.{Device}
use Rattle.log_device.specs.declared.error.DeviceFlush.{DeviceFlush}
use Rattle.log_device.specs.declared.error.DeviceFlush.TheVariants as refusals
use Rattle.log_device.specs.Whole.{IsBroken, IsCommitted, LeavesAt, disk_of, log_of, numbers_of, view_of, HasHistory}
use Rattle.log_device.proofs.Bearing.{still_names}
use Rattle.log_device.proofs.Calls.{still_leaves, leaves_behind}
use Rattle.log_device.proofs.Results.{none_of, on_any}
use Rattle.log_device.proofs.Whole.{kept_file}

pub nothing_same : (a b : ℕ) → ◌≡◌ {A = Result ℕ DeviceFlush} (Err (refusals.Nothing a)) (Err (refusals.Nothing b)) → a ≡ b
nothing_same a b is = cc is

pub not_nothing : (result : Result ℕ DeviceFlush) (why : DeviceFlush) → ((n : ℕ) → refusals.Nothing n ≡ why → ⊥) → IsErrAnd result (λ e. e ≡ why) → (n : ℕ) → result ≡ Err (refusals.Nothing n) → ⊥
not_nothing (Ok m) why other is n nothing = absurd is
not_nothing (Err e) why other is n nothing = other n (cc (nothing, is))

pub memory_apart : (n : ℕ) → refusals.Memory ≡ refusals.Nothing n → ⊥
memory_apart n is = absurd (cc is)

pub fault_apart : (n : ℕ) → refusals.WriteFault ≡ refusals.Nothing n → ⊥
fault_apart n is = absurd (cc is)

pub no_nothing : (n : ℕ) → refusals.Nothing n ≡ refusals.WriteFault → ⊥
no_nothing n is = absurd (cc is)

pub no_fault : refusals.Memory ≡ refusals.WriteFault → ⊥
no_fault is = absurd (cc is)

-- it made no disk call
pub still_flushes : {D : Type 0} (g : Ghosts D) (h : History) (r : ℕ) (family : Option (List ℕ)) (result : Result ℕ DeviceFlush) (old new : Device D) → IsTrueDisk (view_of g old) → HasHistory g old h → disk_of new ≡ disk_of old → IsErr result
    → ((n : ℕ) → result ≡ Err (refusals.Nothing n) → (n ≡ lasts h.kept.first h.kept.durable r) × NoneKept h.kept r family) → HasHistory g new h → FlushesFrom g [] h r family result old new
still_flushes {D} g h r family result old new sound whole same failed nothing after =
    let v = view_of g old in
    let ns = (numbers_of old).next_store in record {
      any_moment = (0, subst (λ (d : D). Throughout (LeavesAt g old []) 0 v (g.view d)) (sym same) (still_leaves whole.file v h (numbers_of old) whole.keeps whole.counted sound));
      names = λ file is. (
        0,
        subst (λ (d : D). Throughout (Bears h.kept.base ns file.name.number) 0 v (g.view d)) (sym same) (still_names file v h ns (kept_file old v h file is whole) file.name.number 0 (omega arith)),
      );
      flushed = none_of result (λ n. (n ≡ lasts h.kept.first h.kept.durable r) × HasUnflushed h.kept r family × HasHistory g new (flushed_in h r (family_in family) n)) failed;
      store = none_of result (λ n. HasStore (view_of g new) r (family_in family) (get_or ns r 0) (h.kept.flushed r (family_in family) + 1) n) failed;
      nothing = nothing;
      refused = on_any {P = (IsBroken new → ⊥) → HasHistory g new h} result (λ unbroken. after);
      lower = λ file is k low. ap (λ (d : D). bytes_of (g.view d).files k) same;
    }

-- after a commit
pub flushes_behind : {D E : Type 0} (g : Ghosts D) (h : History) (r : ℕ) (family : Option (List ℕ)) (first : Result ℕ E) (result : Result ℕ DeviceFlush) (old mid new : Device D) → IsTrueDisk (view_of g old) → IsTrueDisk (view_of g mid)
    → HasHistory g old h → HasHistory g mid (committed_in h) → numbers_of mid ≡ record (numbers_of old) { synced = (numbers_of old).drawn } → ((file : OpenLog) → log_of old ≡ Some file → IsCommitted file (log_of mid))
    → Syncs g h first old mid → FlushesFrom g [] (committed_in h) r family result mid new → Flushes g h r family result old new
flushes_behind g h r family first result old mid new sound sound_mid whole now same files sync said =
    let u = view_of g old in
    let v = view_of g mid in
    let w = view_of g new in
    let ns = (numbers_of old).next_store in
    let stores : (numbers_of mid).next_store ≡ ns = ap (λ (b : Numbers). b.next_store) same in
    let like = (now.keeps.images v.files sound_mid.reads).like in record {
      any_moment = (
        4 + said.any_moment.0,
        joined (LeavesAt g old h.kept.staged) 4 said.any_moment.0 u v w sync.any_moment
            (weaker (LeavesAt g mid []) (LeavesAt g old h.kept.staged) said.any_moment.0 v w
            (λ J left. leaves_behind whole.file u h (numbers_of old) whole.keeps whole.counted sound v like J (subst (λ (b : Numbers). Leaves b.stored b.closed v.files [] J) same left)) said.any_moment.1),
      );
      names = λ file is.
          let its = files file is in
          let over = said.names its.0 its.1 in (
            4 + over.0,
            joined (Bears h.kept.base ns file.name.number) 4 over.0 u v w (sync.names file is)
                (subst (λ (p : List ℕ × ℕ). Throughout (Bears h.kept.base p.0 p.1) over.0 v w) (λ i. (stores i, (its.2 i).number)) over.1),
          );
      flushed = said.flushed;
      store = subst (λ (l : List ℕ). IfOk result (λ n. HasStore w r (family_in family) (get_or l r 0) (h.kept.flushed r (family_in family) + 1) n)) stores said.store;
      nothing = said.nothing;
      refused = said.refused;
      lower = λ file is k low.
          let its = files file is in
          let number : its.0.name.number ≡ file.name.number = ap (λ (n : Name). n.number) its.2 in
          said.lower its.0 its.1 k (omega (arith, number, low)) ∙ sync.lower file is k low;
    }
