-- What a call leaves of a device that isn't broken.
use Rattle.std.proofs.Common.{◌≡◌, ℕ, ap, arith}
use Rattle.disk_images.specs.Calls.{HasCause}
use Rattle.disk_images.specs.declared.disk.Disk.{Ghosts}
use Rattle.log_device.specs.declared.device.Device.{Device}
use Rattle.log_device.specs.Whole.{IsBroken, Breaks, CausesFault, disk_of}

pub no_cause : {failed : Type 0} (before now : ℕ) → now ≡ before → (failed → ⊥) → HasCause before now failed
no_cause before now same none = record { later = omega (arith, same); risen = λ failed. absurd (none failed) }

pub cause_behind : {failed other more : Type 0} (before mid now : ℕ) → HasCause before mid other → HasCause mid now failed → (more → failed) → HasCause before now more
cause_behind before mid now first cause of = record {
  later = omega (arith, first.later, cause.later);
  risen = λ failed. let rose = cause.risen (of failed) in omega (arith, first.later, rose);
}

module _ {D : Type 0} (g : Ghosts D) {failed : Type 0} (old new : Device D) (unbroken : IsBroken old → ⊥) where
  -- nothing failed
  pub unharmed : {other : Type 0} → (IsBroken new → ⊥) → CausesFault g old new other → (failed → ⊥) → Breaks g failed old new
  unharmed still cause none = record {
    stays = λ broken. absurd (unbroken broken);
    broken = (λ failed. absurd (none failed), λ broken. absurd (still broken));
    cause = record { later = cause.later; risen = λ failed. absurd (none failed.1) };
  }

  -- and no disk call was made
  pub still_breaks : (IsBroken new → ⊥) → disk_of new ≡ disk_of old → (failed → ⊥) → Breaks g failed old new
  still_breaks still disk none = unharmed {other = ⊥} still (no_cause (g.faults (disk_of old)) (g.faults (disk_of new)) (ap g.faults disk) (λ failed. failed)) none

  -- a disk call failed
  pub fault_breaks : {other : Type 0} → IsBroken new → CausesFault g old new other → other → failed → Breaks g failed old new
  fault_breaks broken cause risen failed = record {
    stays = λ was. absurd (unbroken was);
    broken = (λ _. broken, λ _. failed);
    cause = record { later = cause.later; risen = λ _. cause.risen risen };
  }
