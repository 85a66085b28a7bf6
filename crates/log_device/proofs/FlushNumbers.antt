-- What a flush makes of the numbers.
use Rattle.std.proofs.Common.{◌≡◌, ◌⊎◌, inl, inr, ◌+◌, ◌≤◌, ◌<◌, ℕ, List, Option, None, Result, Ok, Err, Some, get_or, OnOk, OnErr, sym, ap, ◌∙◌, subst, arith}
use Rattle.std.specs.Prelude.{slice_set, IsErrAnd, IsErrOf}
use Rattle.disk_images.specs.declared.disk.Disk.{Ghosts}
use Rattle.log_file.specs.Open.{OpenLog}
use Rattle.log_ledger.specs.Numbers.{Numbers, IsServed, AreStoresFew}
use Rattle.log_device.specs.Calls.{FlushesNumbers}
use Rattle.log_device.specs.declared.device.Device.{Device}
use Rattle.log_device.specs.declared.error.DeviceFlush.{DeviceFlush}
use Rattle.log_device.specs.declared.error.DeviceFlush.TheVariants as refusals
use Rattle.log_device.specs.Whole.{IsBroken, IsAtRest, IsCommitted, NoneFell, log_of, numbers_of}
use Rattle.log_device.proofs.Results.{then}
use Rattle.log_device.proofs.Syncing.{rest_file, none_fell_behind}
use Rattle.log_device.proofs.Told.{IsTold}

-- after a commit
pub numbers_behind : {D : Type 0} (r : ℕ) (family : Option (List ℕ)) (result : Result ℕ DeviceFlush) (old mid new : Device D) → numbers_of mid ≡ record (numbers_of old) { synced = (numbers_of old).drawn }
    → ((q : ℕ) → get_or (numbers_of old).synced q 0 ≤ get_or (numbers_of mid).synced q 0) → ((limit : ℕ) → AreStoresFew limit (numbers_of old) → AreStoresFew limit (numbers_of mid)) → ((file : OpenLog) → log_of old ≡ Some file → IsCommitted file (log_of mid))
    → FlushesNumbers r family result mid new → FlushesNumbers r family result old new
numbers_behind r family result old mid new same rises few files said =
    let now = numbers_of new in
    let drawn : (numbers_of mid).drawn ≡ (numbers_of old).drawn = ap (λ (b : Numbers). b.drawn) same in
    let synced : (numbers_of mid).synced ≡ (numbers_of old).drawn = ap (λ (b : Numbers). b.synced) same in
    let stored : (numbers_of mid).stored ≡ (numbers_of old).stored = ap (λ (b : Numbers). b.stored) same in
    let closed : (numbers_of mid).closed ≡ (numbers_of old).closed = ap (λ (b : Numbers). b.closed) same in record {
      number = then result (λ n is. is ∙ ap (λ (l : List ℕ). get_or l r 0) drawn) said.number;
      nothing_number = λ n is. said.nothing_number n is ∙ ap (λ (l : List ℕ). get_or l r 0) drawn;
      above = λ all. then result (λ n is. subst (λ (m : ℕ). m < n) (ap (λ (l : List ℕ). get_or l r 0) stored) is) (said.above all);
      stored = said.stored;
      stored_nothing = said.stored_nothing;
      stored_of_one = λ f one. said.stored_of_one f one ∙ stored;
      stored_still = λ failed. said.stored_still failed ∙ stored;
      others = λ q other. said.others q other ∙ ap (λ (l : List ℕ). get_or l q 0) stored;
      next_store = subst (λ (b : Numbers). OnOk result (now.next_store ≡ slice_set b.next_store r (get_or b.next_store r 0 + 1))) same said.next_store;
      next_store_still = subst (λ (b : Numbers). OnErr result (now.next_store ≡ b.next_store)) same said.next_store_still;
      few = λ limit was. said.few limit (few limit was);
      served = λ q served. said.served q (subst (λ (b : Numbers). IsServed b q) (sym same) served);
      file = λ file is unbroken.
          let first = files file is in
          let last = said.file first.0 first.1 unbroken in
          (last.0, last.1, last.2 ∙ first.2, omega (arith, last.3, first.3, first.4), last.4);
      emptied = said.emptied;
      synced = λ unbroken. said.synced unbroken ∙ drawn;
      synced_either = elim said.synced_either as (λ _. (now.synced ≡ (numbers_of old).synced) ⊎ (now.synced ≡ (numbers_of old).drawn)) [ inl still ↦ inr (still ∙ synced) | inr raised ↦ inr (raised ∙ drawn) ];
      later = none_fell_behind (numbers_of old) (numbers_of mid) now same rises said.later;
      closed = said.closed ∙ closed;
      drawn = said.drawn ∙ drawn;
    }

module _ {D : Type 0} (g : Ghosts D) (r : ℕ) (family : Option (List ℕ)) (old new : Device D) (rest : IsAtRest g old) (same_log : log_of new ≡ log_of old)
    (drawn : (numbers_of new).drawn ≡ (numbers_of old).drawn) (synced : (numbers_of new).synced ≡ (numbers_of old).synced) (closed : (numbers_of new).closed ≡ (numbers_of old).closed)
    (few : (limit : ℕ) → AreStoresFew limit (numbers_of old) → AreStoresFew limit (numbers_of new)) where
  later : ((q : ℕ) → get_or (numbers_of old).stored q 0 ≤ get_or (numbers_of new).stored q 0) → NoneFell (numbers_of old) (numbers_of new)
  later rises = record {
    synced = λ q. let is = ap (λ (l : List ℕ). get_or l q 0) synced in omega (arith, is);
    stored = rises;
    closed = λ q. let is = ap (λ (l : List ℕ). get_or l q 0) closed in omega (arith, is);
  }

  -- a store was written
  pub flush_numbers : (n : ℕ) → n ≡ get_or (numbers_of old).drawn r 0 → (family ≡ None → get_or (numbers_of old).stored r 0 < n) → IsTold r family n (numbers_of old) (numbers_of new)
      → (numbers_of new).next_store ≡ slice_set (numbers_of old).next_store r (get_or (numbers_of old).next_store r 0 + 1) → ((q : ℕ) → IsServed (numbers_of old) q → IsServed (numbers_of new) q) → FlushesNumbers r family (Ok n) old new
  flush_numbers n is above told stores served = record {
    number = is;
    nothing_number = λ m nothing. absurd (cc nothing);
    above = above;
    stored = told.all;
    stored_nothing = λ all m nothing. absurd (cc nothing);
    stored_of_one = told.one;
    stored_still = λ failed. absurd (no_refusal failed);
    others = told.others;
    next_store = stores;
    next_store_still = tt;
    few = few;
    served = served;
    file = λ file is unbroken. rest_file old new rest.idle same_log file is;
    emptied = λ file is. rest.idle file (sym same_log ∙ is);
    synced = λ unbroken. synced ∙ rest.synced;
    synced_either = inl synced;
    later = later told.rises;
    closed = closed;
    drawn = drawn;
  }
    where
      no_refusal : {T E : Type 0} {t : T} {a b : E} → (Ok t ≡ Err a) ⊎ (Ok t ≡ Err b) → ⊥
      no_refusal (inl is) = absurd (cc is)
      no_refusal (inr is) = absurd (cc is)

  -- there was nothing to flush
  pub kept_numbers : (n : ℕ) → n ≡ get_or (numbers_of old).drawn r 0 → IsTold r family n (numbers_of old) (numbers_of new) → (numbers_of new).next_store ≡ (numbers_of old).next_store → FlushesNumbers r family (Err (refusals.Nothing n)) old new
  kept_numbers n is told stores = record {
    number = tt;
    nothing_number = λ m nothing. sym (cc nothing) ∙ is;
    above = λ all. tt;
    stored = λ all. tt;
    stored_nothing = λ all m nothing. told.all all ∙ cc nothing;
    stored_of_one = told.one;
    stored_still = λ failed. absurd (no_refusal failed);
    others = told.others;
    next_store = tt;
    next_store_still = stores;
    few = few;
    served = λ q served. subst (λ (l : List ℕ). 0 < get_or l q 0) (sym stores) served;
    file = λ file is unbroken. rest_file old new rest.idle same_log file is;
    emptied = λ file is. rest.idle file (sym same_log ∙ is);
    synced = λ unbroken. synced ∙ rest.synced;
    synced_either = inl synced;
    later = later told.rises;
    closed = closed;
    drawn = drawn;
  }
    where
      no_refusal : {T : Type 0} → IsErrOf {T = T} (Err (refusals.Nothing n)) refusals.Memory ⊎ IsErrOf {T = T} (Err (refusals.Nothing n)) refusals.WriteFault → ⊥
      no_refusal (inl is) = absurd (cc is)
      no_refusal (inr is) = absurd (cc is)

  -- it was refused before a store was written
  pub refused_numbers : (why : DeviceFlush) → ((n : ℕ) → why ≡ refusals.Nothing n → ⊥) → (numbers_of new).stored ≡ (numbers_of old).stored → (numbers_of new).next_store ≡ (numbers_of old).next_store → FlushesNumbers r family (Err why) old new
  refused_numbers why other stored stores = record {
    number = tt;
    nothing_number = λ m nothing. absurd (other m (cc nothing));
    above = λ all. tt;
    stored = λ all. tt;
    stored_nothing = λ all m nothing. absurd (other m (cc nothing));
    stored_of_one = λ f one. stored;
    stored_still = λ failed. stored;
    others = λ q other. ap (λ (l : List ℕ). get_or l q 0) stored;
    next_store = tt;
    next_store_still = stores;
    few = few;
    served = λ q served. subst (λ (l : List ℕ). 0 < get_or l q 0) (sym stores) served;
    file = λ file is unbroken. rest_file old new rest.idle same_log file is;
    emptied = λ file is. rest.idle file (sym same_log ∙ is);
    synced = λ unbroken. synced ∙ rest.synced;
    synced_either = inl synced;
    later = later (λ q. let is = ap (λ (l : List ℕ). get_or l q 0) stored in omega (arith, is));
    closed = closed;
    drawn = drawn;
  }

  -- by a result that has this refusal
  pub refused_with : (result : Result ℕ DeviceFlush) (why : DeviceFlush) → IsErrAnd result (λ e. e ≡ why) → ((n : ℕ) → why ≡ refusals.Nothing n → ⊥) → (numbers_of new).stored ≡ (numbers_of old).stored
      → (numbers_of new).next_store ≡ (numbers_of old).next_store → FlushesNumbers r family result old new
  refused_with (Ok n) why is other stored stores = absurd is
  refused_with (Err e) why is other stored stores = subst (λ (w : DeviceFlush). FlushesNumbers r family (Err w) old new) (sym is) (refused_numbers why other stored stores)

-- a disk call failed, and the numbers are as they were
pub broken_numbers : {D : Type 0} (r : ℕ) (family : Option (List ℕ)) (old new : Device D) → IsBroken new → numbers_of new ≡ numbers_of old → FlushesNumbers r family (Err refusals.WriteFault) old new
broken_numbers r family old new broken same =
    let stored : (numbers_of new).stored ≡ (numbers_of old).stored = ap (λ (b : Numbers). b.stored) same in record {
      number = tt;
      nothing_number = λ m nothing. absurd (cc nothing);
      above = λ all. tt;
      stored = λ all. tt;
      stored_nothing = λ all m nothing. absurd (cc nothing);
      stored_of_one = λ f one. stored;
      stored_still = λ failed. stored;
      others = λ q other. ap (λ (l : List ℕ). get_or l q 0) stored;
      next_store = tt;
      next_store_still = ap (λ (b : Numbers). b.next_store) same;
      few = λ limit was. subst (λ (b : Numbers). AreStoresFew limit b) (sym same) was;
      served = λ q served. subst (λ (b : Numbers). IsServed b q) (sym same) served;
      file = λ file is unbroken. absurd (unbroken broken);
      emptied = λ file is. absurd (cc (is, broken));
      synced = λ unbroken. absurd (unbroken broken);
      synced_either = inl (ap (λ (b : Numbers). b.synced) same);
      later = subst (λ (b : Numbers). NoneFell (numbers_of old) b) (sym same) none_fell;
      closed = ap (λ (b : Numbers). b.closed) same;
      drawn = ap (λ (b : Numbers). b.drawn) same;
    }
  where
    none_fell : NoneFell (numbers_of old) (numbers_of old)
    none_fell = record { synced = λ q. omega arith; stored = λ q. omega arith; closed = λ q. omega arith }
