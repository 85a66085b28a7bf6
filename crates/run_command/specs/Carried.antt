-- What is left of a script that was run on a store.
use Rattle.std.specs.Prelude.{◌≡◌, ℕ, true, map}
use Rattle.disk_images.specs.Crash.{DiskView}
use Rattle.disk_images.specs.Calls.{Rose}
use Rattle.recover_command.specs.Recovered.{IsStoreDamage}
use Rattle.log_model.specs.declared.damage.Damage.{Damage}
use Rattle.script_model.specs.Calls.{Script}
use Rattle.server_model.specs.Pass.{Naming}
use Rattle.run_model.specs.Closed.{FitsThroughout}
use Rattle.run_model.specs.Headline.{KeepsFound, IsHalfOpened}
use Rattle.script_run.specs.Ends.{closed_at, HasClosed}
use Rattle.script_run.specs.region_calls.declared.refusal.StartWhy.{StartWhy}
use Rattle.script_run.specs.region_calls.declared.refusal.StartWhy.TheVariants as whys
use Rattle.run_command.specs.declared.carrying.Ran.{Ran}
use Rattle.run_command.specs.declared.carrying.Ran.TheVariants as rans

abbrev pub disk_of : {D : Type 0} → Ran D → D
disk_of (rans.Closed disk regions replies spent broken) = disk
disk_of (rans.Left disk) = disk
disk_of (rans.NotOpened why disk) = disk

-- where a store isn't opened for damage, P holds of it
abbrev pub IfFoundDamaged : StartWhy → (Damage → Type 0) → Type 0
IfFoundDamaged (whys.Damaged damage) P = P damage
IfFoundDamaged _ P = Unit {0}

-- What is left of a script on a store that was found so: a closed server, with the history of its handlers' calls, of which a crash at each
-- moment left a beginning; the cells that were found; or a store that could not be opened, which recovers to the same. Damage is one of the
-- files as found, which aren't sound, and changed no file.
abbrev pub HasRan : {D : Type 0} → (D → DiskView) → Script → DiskView → Ran D → Type 0
HasRan view script before (rans.Closed disk regions replies spent broken) =
    (name : Naming) × HasClosed script before.files (view disk) name regions.items replies.items spent broken × FitsThroughout before (view disk) (map closed_at regions.items)
HasRan view script before (rans.Left disk) = KeepsFound before (view disk)
HasRan view script before (rans.NotOpened why disk) =
    IsHalfOpened before (view disk) × IfFoundDamaged why (λ damage. IsStoreDamage before.files damage × ((view disk).files ≡ before.files))

-- a broken log, and a store that isn't opened for a fault of the disk, have their cause in the disk's count of faults
abbrev pub HasRanCause : {D : Type 0} → (D → ℕ) → ℕ → Ran D → Type 0
HasRanCause faults before (rans.Closed disk regions replies spent broken) = broken ≡ true → Rose before (faults disk)
HasRanCause faults before (rans.Left disk) = Unit {0}
HasRanCause faults before (rans.NotOpened why disk) = why ≡ whys.DiskFault → Rose before (faults disk)
