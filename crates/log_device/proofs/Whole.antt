-- What is said of a whole device, of the log file that it has.
use Rattle.std.proofs.Common.{◌≡◌, Option, Some, None, refl, sym, ◌∙◌, subst}
use Rattle.disk_images.specs.Crash.{DiskView}
use Rattle.chronicle_model.specs.Growth.{IsGoingOn}
use Rattle.log_file.specs.Open.{OpenLog}
use Rattle.log_ledger.specs.History.{History}
use Rattle.log_device.specs.declared.device.Device.{Device}
use Rattle.log_device.specs.Keeps.{Keeps}
use Rattle.log_device.specs.Whole.{IsWhole, IsBroken, log_of, numbers_of}
use Rattle.log_device.proofs.Appends.{kept_goes_on}
use Rattle.log_device.proofs.Numbering.{same_file}

-- the file that it is found to have
pub kept_file : {D : Type 0} (d : Device D) (disk : DiskView) (h : History) (file : OpenLog) → log_of d ≡ Some file → IsWhole d disk h → Keeps file disk h (numbers_of d).next_store
kept_file d disk h file is whole = subst (λ (f : OpenLog). Keeps f disk h (numbers_of d).next_store) (same_file whole.file file (sym whole.is ∙ is)) whole.keeps

-- its logs go on
pub whole_goes_on : {D : Type 0} (d : Device D) (disk : DiskView) (h : History) → IsWhole d disk h → IsGoingOn disk.files
whole_goes_on d disk h whole = kept_goes_on whole.file disk h (numbers_of d).next_store whole.keeps

some_of : {A : Type 0} (o : Option A) → (o ≡ None → ⊥) → (a : A) × (o ≡ Some a)
some_of None some = absurd (some refl)
some_of (Some a) some = (a, refl)

-- a device that isn't broken has a log file
pub some_file : {D : Type 0} (d : Device D) → (IsBroken d → ⊥) → (file : OpenLog) × (log_of d ≡ Some file)
some_file d unbroken = some_of (log_of d) unbroken
