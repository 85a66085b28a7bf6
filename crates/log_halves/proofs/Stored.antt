-- What is stored of a region is synced.
use Rattle.std.proofs.Common.{◌≡◌, ◌⊎◌, inl, inr, ℕ, ◌<◌, ◌≤◌, List, get_or, Option, Some, None, Result, Ok, Err, refl, ap, ◌∙◌, subst, sym, arith}
use Rattle.log_file.specs.Open.{OpenLog}
use Rattle.std.specs.Prelude.{◌↔◌, IsErr, IsErrOf, OnOk}
use Rattle.std.proofs.lemmas.Bool.{cases_eq}
use Rattle.log_ledger.specs.Numbers.{Numbers}
use Rattle.log_device.specs.declared.device.Device.{Device}
use Rattle.log_device.specs.declared.error.DeviceFlush.{DeviceFlush}
use Rattle.log_device.specs.declared.error.DeviceFlush.TheVariants as refusals
use Rattle.log_device.specs.declared.error.RollRefusal.{RollRefusal}
use Rattle.log_device.specs.declared.error.Rolled.{Rolled}
use Rattle.log_device.specs.Whole.{IsBroken, IsIdle, log_of, numbers_of}
use Rattle.log_device.specs.Calls.{RollsNumbers, FlushesNumbers, ArchivesNumbers}
use Rattle.log_halves.specs.Numbers.{AreStoredSynced}
use Rattle.log_halves.specs.Ties.{KeepsNumbers}

-- where what is stored stays, and what is synced does not fall
pub stored_on : (a b : Numbers) → b.stored ≡ a.stored → ((r : ℕ) → get_or a.synced r 0 ≤ get_or b.synced r 0) → AreStoredSynced a → AreStoredSynced b
stored_on a b same later low r = let is = ap (λ (l : List ℕ). get_or l r 0) same in omega (arith, is, later r, low r)

-- after a flush
module _ {D : Type 0} (r : ℕ) (family : Option (List ℕ)) (old new : Device D) (low : AreStoredSynced (numbers_of old)) where
  there : (result : Result ℕ DeviceFlush) (f : Option (List ℕ)) → f ≡ family → FlushesNumbers r family result old new → (IsBroken new → IsErrOf result refusals.WriteFault) → get_or (numbers_of new).stored r 0 ≤ get_or (numbers_of new).synced r 0
  there result (Some f) one said broken = stored_on (numbers_of old) (numbers_of new) (said.stored_of_one f (sym one)) said.later.synced low r
  there (Ok n) None all said broken =
      let synced = ap (λ (l : List ℕ). get_or l r 0) (said.synced (λ is. absurd (cc (broken is)))) in
      omega (arith, said.stored (sym all), said.number, synced)
  there (Err refusals.Memory) None all said broken = stored_on (numbers_of old) (numbers_of new) (said.stored_still (inl refl)) said.later.synced low r
  there (Err refusals.WriteFault) None all said broken = stored_on (numbers_of old) (numbers_of new) (said.stored_still (inr refl)) said.later.synced low r
  there (Err (refusals.Nothing n)) None all said broken =
      let synced = ap (λ (l : List ℕ). get_or l r 0) (said.synced (λ is. absurd (cc (broken is)))) in
      omega (arith, said.stored_nothing (sym all) n refl, said.nothing_number n refl, synced)

  pub stored_flushed : (result : Result ℕ DeviceFlush) → FlushesNumbers r family result old new → (IsErrOf result refusals.WriteFault ↔ IsBroken new) → AreStoredSynced (numbers_of new)
  stored_flushed result said broken q = elim (cases_eq q r) as (λ _. get_or (numbers_of new).stored q 0 ≤ get_or (numbers_of new).synced q 0) [
    | inl is ↦ subst (λ (k : ℕ). get_or (numbers_of new).stored k 0 ≤ get_or (numbers_of new).synced k 0) (sym is) (there result family refl said broken.1)
    | inr other ↦ omega (arith, said.others q other, said.later.synced q, low q)
  ]

pub numbers_flushed : {D : Type 0} (r : ℕ) (family : Option (List ℕ)) (result : Result ℕ DeviceFlush) (old new : Device D) → FlushesNumbers r family result old new → (IsErrOf result refusals.WriteFault ↔ IsBroken new) → KeepsNumbers old new
numbers_flushed r family result old new said broken = record {
  idle = said.emptied;
  served = said.served;
  drawn = said.drawn;
  synced = said.synced;
  stored = λ low. stored_flushed r family old new low result said broken;
  later = said.later;
}

pub numbers_rolled : {D : Type 0} (result : Result Rolled RollRefusal) (old new : Device D) → RollsNumbers result old new → KeepsNumbers old new
numbers_rolled result old new said = record {
  idle = said.emptied;
  served = λ r served. subst (λ (l : List ℕ). 0 < get_or l r 0) (sym said.next_store) served;
  drawn = said.drawn;
  synced = said.synced;
  stored = stored_on (numbers_of old) (numbers_of new) said.stored said.later.synced;
  later = said.later;
}

-- and then closed logs go
pub numbers_archived : {D E : Type 0} (result : Result ℕ E) (old mid new : Device D) → KeepsNumbers old mid → ArchivesNumbers result mid new → (IsErr result ↔ IsBroken new) → KeepsNumbers old new
numbers_archived {D} {E} result old mid new first said broken = record {
  idle = idle result said.file (λ err. broken.0 err);
  served = λ r served. subst (λ (l : List ℕ). 0 < get_or l r 0) (sym said.next_store) (first.served r served);
  drawn = said.drawn ∙ first.drawn;
  synced = λ whole. said.synced ∙ first.synced (λ fell. whole (still result said.file (λ err. broken.0 err) fell));
  stored = λ low. stored_on (numbers_of mid) (numbers_of new) said.stored (λ r. let is = ap (λ (l : List ℕ). get_or l r 0) said.synced in omega (arith, is)) (first.stored low);
  later = record {
    synced = λ r. let is = ap (λ (l : List ℕ). get_or l r 0) said.synced in omega (arith, is, first.later.synced r);
    stored = λ r. let is = ap (λ (l : List ℕ). get_or l r 0) said.stored in omega (arith, is, first.later.stored r);
    closed = λ r. let is = ap (λ (l : List ℕ). get_or l r 0) said.closed in omega (arith, is, first.later.closed r);
  };
}
  where
    idle : (result : Result ℕ E) → OnOk result (log_of new ≡ log_of mid) → (IsErr result → IsBroken new) → IsIdle (log_of new)
    idle (Ok n) same fails = subst IsIdle (sym same) first.idle
    idle (Err e) same fails = λ file is. absurd (cc (sym is ∙ fails refl))

    still : (result : Result ℕ E) → OnOk result (log_of new ≡ log_of mid) → (IsErr result → IsBroken new) → IsBroken mid → IsBroken new
    still (Ok n) same fails fell = same ∙ fell
    still (Err e) same fails fell = fails refl
