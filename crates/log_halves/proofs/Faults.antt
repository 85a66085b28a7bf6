-- Whether a device broke, by its file and by an answer.
use Rattle.std.proofs.Common.{◌≡◌, ℕ, false, true, refl}
use Rattle.std.specs.Prelude.{Option, Some, None, is_none, Result, Ok, Err, IfOk}
use Rattle.log_device.specs.declared.error.DeviceFlush.{DeviceFlush}
use Rattle.log_device.specs.declared.error.DeviceFlush.TheVariants as flushes
use Rattle.log_device.specs.declared.error.Rolled.{Rolled}
use Rattle.log_device.specs.declared.error.RollRefusal.{RollRefusal}
use Rattle.log_device.specs.declared.error.RollRefusal.TheVariants as rolls

-- a device has its log file where it isn't broken
pub has_file : {A : Type 0} (o : Option A) → is_none o ≡ false → o ≡ None → ⊥
has_file None whole = absurd (cc whole)
has_file (Some a) whole = λ none. cc none

-- what follows from the one that is there
pub from_some : {A B : Type 0} (o : Option A) → (o ≡ None → ⊥) → ((a : A) → o ≡ Some a → B) → B
from_some None some f = absurd (some refl)
from_some (Some a) some f = f a refl

pub not_broken : {A : Type 0} (o : Option A) → (o ≡ None → ⊥) → is_none o ≡ false
not_broken None some = absurd (some refl)
not_broken (Some a) some = refl

pub is_broken : {A : Type 0} (o : Option A) → is_none o ≡ true → o ≡ None
is_broken None is = refl
is_broken (Some a) is = absurd (cc is)

-- where there was nothing to flush, or to roll, the device didn't break
pub no_flush_fault : {r : Result ℕ DeviceFlush} (n : ℕ) → r ≡ Err (flushes.Nothing n) → r ≡ Err flushes.WriteFault → ⊥
no_flush_fault n is why = absurd (cc (is, why))

pub no_roll_fault : {r : Result Rolled RollRefusal} (n : ℕ) → r ≡ Err (rolls.NothingToRoll n) → r ≡ Err rolls.WriteFault → ⊥
no_roll_fault n is why = absurd (cc (is, why))

-- after Ok a device isn't broken, where it is broken only after one refusal
pub then_whole : {T E Broken : Type 0} {P Q : T → Type 0} (result : Result T E) (why : E) → (Broken → result ≡ Err why) → ((t : T) → (Broken → ⊥) → P t → Q t) → IfOk result P → IfOk result Q
then_whole (Ok t) why only step p = step t (λ broken. cc (only broken)) p
then_whole (Err e) why only step p = tt
