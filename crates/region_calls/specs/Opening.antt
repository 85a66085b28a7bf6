-- What an opening leaves.
use Rattle.std.specs.Prelude.{◌≡◌, Result, Ok, Err}
use Rattle.log_model.specs.declared.damage.Damage.{Damage}
use Rattle.region_replay.specs.found_files.declared.refusal.SplitRefusal.{SplitRefusal}
use Rattle.region_replay.specs.found_files.declared.refusal.SplitRefusal.TheVariants as refusals
use Rattle.pass_calls.specs.log_service.log_device.declared.error.DeviceWhy.{DeviceWhy}
use Rattle.pass_calls.specs.log_service.log_device.declared.error.DeviceWhy.TheVariants as whys
use Rattle.region_calls.specs.declared.refusal.StartWhy.{StartWhy}
use Rattle.region_calls.specs.declared.refusal.StartWhy.TheVariants as starts
use Rattle.region_calls.specs.declared.refusal.StartRefusal.{StartRefusal}
use Rattle.region_calls.specs.declared.store.OpenedStore.{OpenedStore}
use Rattle.region_calls.specs.Store.{disk_now}

-- the disk of an opening, whether it was refused or not
abbrev pub disk_left : {D : Type 0} → Result (OpenedStore D) (StartRefusal D) → D
disk_left (Ok o) = disk_now o
disk_left (Err e) = e.disk

abbrev pub why_of : SplitRefusal → StartWhy
why_of refusals.Memory = starts.Memory
why_of refusals.DiskFault = starts.DiskFault
why_of (refusals.Damaged damage) = starts.Damaged damage

abbrev pub why_not : DeviceWhy → StartWhy
why_not whys.Memory = starts.Memory
why_not whys.DiskFault = starts.DiskFault

-- where the opening was refused for damage, P holds of it
abbrev pub IfDamaged : {T D : Type 0} → Result T (StartRefusal D) → (Damage → D → Type 0) → Type 0
IfDamaged (Ok x) P = Unit {0}
IfDamaged (Err e) P = (damage : Damage) → e.why ≡ starts.Damaged damage → P damage e.disk
