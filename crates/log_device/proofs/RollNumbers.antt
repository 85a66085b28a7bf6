-- What a roll makes of the numbers.
use Rattle.std.proofs.Common.{◌≡◌, ◌⊎◌, inl, inr, ◌+◌, ◌≤◌, ◌<◌, ℕ, List, Result, Ok, Err, Some, get_or, sym, ap, ◌∙◌, arith}
use Rattle.std.specs.Prelude.{IsErrAnd}
use Rattle.log_model.specs.declared.name.Name.{Name}
use Rattle.disk_images.specs.declared.disk.Disk.{Ghosts}
use Rattle.log_file.specs.Open.{OpenLog}
use Rattle.seq_accounting.specs.Accounts.{Accounts}
use Rattle.log_ledger.specs.Numbers.{Numbers, AreStoresFew}
use Rattle.log_device.specs.Calls.{RollsNumbers, BeginsNextNumbers}
use Rattle.log_device.specs.Keeps.{log_name}
use Rattle.log_device.specs.declared.device.Device.{Device}
use Rattle.log_device.specs.declared.error.Rolled.{Rolled}
use Rattle.log_device.specs.declared.error.RollRefusal.{RollRefusal}
use Rattle.log_device.specs.declared.error.RollRefusal.TheVariants as refusals
use Rattle.log_device.specs.Whole.{IsBroken, IsAtRest, IsCommitted, log_of, numbers_of}
use Rattle.log_device.proofs.Results.{after, then, err_same}
use Rattle.log_device.proofs.Syncing.{none_fell, none_fell_behind}
use Rattle.log_device.proofs.RollSteps.{memory_apart, fault_apart}

-- after the commit
pub numbers_behind : {D : Type 0} (result : Result Rolled RollRefusal) (old mid new : Device D) → numbers_of mid ≡ record (numbers_of old) { synced = (numbers_of old).drawn } → ((q : ℕ) → get_or (numbers_of old).synced q 0 ≤ get_or (numbers_of mid).synced q 0)
    → ((limit : ℕ) → AreStoresFew limit (numbers_of old) → AreStoresFew limit (numbers_of mid)) → ((file : OpenLog) → log_of old ≡ Some file → IsCommitted file (log_of mid)) → RollsNumbers result mid new → RollsNumbers result old new
numbers_behind result old mid new same rises few files said =
    let now = numbers_of new in
    let drawn : (numbers_of mid).drawn ≡ (numbers_of old).drawn = ap (λ (b : Numbers). b.drawn) same in
    let synced : (numbers_of mid).synced ≡ (numbers_of old).drawn = ap (λ (b : Numbers). b.synced) same in
    let stored : (numbers_of mid).stored ≡ (numbers_of old).stored = ap (λ (b : Numbers). b.stored) same in
    let closed : (numbers_of mid).closed ≡ (numbers_of old).closed = ap (λ (b : Numbers). b.closed) same in record {
      file = λ file is.
          let its = files file is in
          then result (λ rolled told. (told.0 ∙ ap (λ (n : Name). n.number) its.2, omega (arith, told.1, its.3, its.4), told.2)) (said.file its.0 its.1);
      next = λ file is.
          let its = files file is in
          after result
          (λ begun. record { now = begun.now; is = begun.is; name = begun.name ∙ ap (λ (n : Name). log_name (n.number + 1)) its.2; entries = begun.entries; staged = begun.staged }) (said.next its.0 its.1);
      nothing = λ file n is nothing.
          let its = files file is in
          let told = said.nothing its.0 n its.1 nothing in
          (told.0 ∙ ap (λ (m : Name). m.number) its.2, omega (arith, told.1, its.3, its.4));
      empty = λ file is none unbroken.
          let its = files file is in
          said.empty its.0 its.1 (omega (arith, none, its.3, its.4)) unbroken ∙ ap (λ (n : Name). Err (refusals.NothingToRoll n.number)) its.2;
      emptied = said.emptied;
      closed = said.closed;
      closed_empty = said.closed_empty;
      closed_still = λ memory. said.closed_still memory ∙ closed;
      closed_broken = λ broken. said.closed_broken broken ∙ closed;
      synced = λ unbroken. said.synced unbroken ∙ drawn;
      synced_either = elim said.synced_either as (λ _. (now.synced ≡ (numbers_of old).synced) ⊎ (now.synced ≡ (numbers_of old).drawn)) [ inl still ↦ inr (still ∙ synced) | inr raised ↦ inr (raised ∙ drawn) ];
      later = none_fell_behind (numbers_of old) (numbers_of mid) now same rises said.later;
      stored = said.stored ∙ stored;
      drawn = said.drawn ∙ drawn;
      next_store = said.next_store ∙ ap (λ (b : Numbers). b.next_store) same;
      few = λ limit was. said.few limit (few limit was);
    }

-- it was refused before the next file was begun
pub refused_numbers : {D : Type 0} (g : Ghosts D) (result : Result Rolled RollRefusal) (old new : Device D) {a : Accounts} → IsAtRest g old → log_of new ≡ log_of old → numbers_of new ≡ record (numbers_of old) { accounts = a }
    → ((limit : ℕ) → AreStoresFew limit (numbers_of old) → AreStoresFew limit (numbers_of new)) → ((file : OpenLog) → log_of old ≡ Some file → 0 < file.entries) → IsErrAnd result (λ e. e ≡ refusals.Memory) → RollsNumbers result old new
refused_numbers g (Ok rolled) old new rest log same few some is = absurd is
refused_numbers g (Err e) old new rest log same few some is =
    let synced : (numbers_of new).synced ≡ (numbers_of old).synced = ap (λ (b : Numbers). b.synced) same in
    let stored : (numbers_of new).stored ≡ (numbers_of old).stored = ap (λ (b : Numbers). b.stored) same in
    let closed : (numbers_of new).closed ≡ (numbers_of old).closed = ap (λ (b : Numbers). b.closed) same in record {
      file = λ file is. tt;
      next = λ file is. tt;
      nothing = λ file n its told. absurd (memory_apart n (sym is ∙ err_same told));
      empty = λ file its none unbroken. absurd (let more = some file its in omega (arith, more, none));
      emptied = λ file its. rest.idle file (sym log ∙ its);
      closed = tt;
      closed_empty = λ n told. absurd (memory_apart n (sym is ∙ err_same told));
      closed_still = λ memory. closed;
      closed_broken = λ broken. closed;
      synced = λ unbroken. synced ∙ rest.synced;
      synced_either = inl synced;
      later = none_fell (numbers_of old) (numbers_of new) synced stored (λ r. let at = ap (λ (l : List ℕ). get_or l r 0) closed in omega (arith, at));
      stored = stored;
      drawn = ap (λ (b : Numbers). b.drawn) same;
      next_store = ap (λ (b : Numbers). b.next_store) same;
      few = few;
    }

-- a disk call failed
pub failed_numbers : {D T E : Type 0} (g : Ghosts D) {e : E} (result : Result Rolled RollRefusal) (old mid new : Device D) {a : Accounts} → IsAtRest g old → numbers_of mid ≡ record (numbers_of old) { accounts = a } → IsBroken new
    → BeginsNextNumbers {T = T} (Err e) mid new → ((limit : ℕ) → AreStoresFew limit (numbers_of old) → AreStoresFew limit (numbers_of mid)) → IsErrAnd result (λ w. w ≡ refusals.WriteFault) → RollsNumbers result old new
failed_numbers g (Ok rolled) old mid new rest same broken begun few is = absurd is
failed_numbers g (Err w) old mid new rest same broken begun few is =
    let synced : (numbers_of new).synced ≡ (numbers_of old).synced = begun.same.synced ∙ ap (λ (b : Numbers). b.synced) same in
    let stored : (numbers_of new).stored ≡ (numbers_of old).stored = begun.same.stored ∙ ap (λ (b : Numbers). b.stored) same in
    let closed : (numbers_of new).closed ≡ (numbers_of old).closed = begun.closed_faulty ∙ ap (λ (b : Numbers). b.closed) same in record {
      file = λ file its. tt;
      next = λ file its. tt;
      nothing = λ file n its told. absurd (fault_apart n (sym is ∙ err_same told));
      empty = λ file its none unbroken. absurd (unbroken broken);
      emptied = begun.emptied;
      closed = tt;
      closed_empty = λ n told. absurd (fault_apart n (sym is ∙ err_same told));
      closed_still = λ memory. closed;
      closed_broken = λ _. closed;
      synced = λ unbroken. absurd (unbroken broken);
      synced_either = inl synced;
      later = none_fell (numbers_of old) (numbers_of new) synced stored (λ r. let at = ap (λ (l : List ℕ). get_or l r 0) closed in omega (arith, at));
      stored = stored;
      drawn = begun.same.drawn ∙ ap (λ (b : Numbers). b.drawn) same;
      next_store = begun.same.next_store ∙ ap (λ (b : Numbers). b.next_store) same;
      few = λ limit was. begun.few limit (few limit was);
    }
