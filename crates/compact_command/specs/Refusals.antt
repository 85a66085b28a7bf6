-- With which statuses a store's region isn't compacted.
use Rattle.command_base.specs.declared.status.Status.{Status}
use Rattle.command_base.specs.declared.status.Status.TheVariants as ends

-- those of an opening
abbrev pub IsOpeningRefusal : Status → Type 0
IsOpeningRefusal ends.Memory = Unit {0}
IsOpeningRefusal ends.DiskFault = Unit {0}
IsOpeningRefusal (ends.Damaged damage) = Unit {0}
IsOpeningRefusal _ = ⊥
