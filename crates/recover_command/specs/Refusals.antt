-- How the opening of a store is refused.
use Rattle.found_files.specs.declared.refusal.SplitRefusal.{SplitRefusal}
use Rattle.found_files.specs.declared.refusal.SplitRefusal.TheVariants as refusals
use Rattle.command_base.specs.declared.status.Status.{Status}
use Rattle.command_base.specs.declared.status.Status.TheVariants as ends

abbrev pub refused_as : SplitRefusal → Status
refused_as refusals.Memory = ends.Memory
refused_as refusals.DiskFault = ends.DiskFault
refused_as (refusals.Damaged damage) = ends.Damaged damage
