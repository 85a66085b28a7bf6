-- With which statuses a load and its parts end.
use Rattle.std.specs.Prelude.{◌≡◌, ◌⊎◌}
use Rattle.command_base.specs.Status.{IsReadingEnd}
use Rattle.command_base.specs.declared.status.Status.{Status}
use Rattle.command_base.specs.declared.status.Status.TheVariants as ends

-- looking whether the store is empty
abbrev pub IsStoreRefusal : Status → Type 0
IsStoreRefusal ends.Memory = Unit {0}
IsStoreRefusal ends.DiskFault = Unit {0}
IsStoreRefusal (ends.NotEmpty name) = Unit {0}
IsStoreRefusal _ = ⊥

-- running the handlers
abbrev pub IsDecided : Status → Type 0
IsDecided ends.Done = Unit {0}
IsDecided ends.Memory = Unit {0}
IsDecided ends.DiskFault = Unit {0}
IsDecided (ends.NumbersSpent region last) = Unit {0}
IsDecided _ = ⊥

-- printing with a status
abbrev pub IsPrintedAs : Status → Status → Type 0
IsPrintedAs status result = (result ≡ status) ⊎ ((result ≡ ends.Memory) ⊎ (result ≡ ends.SinkFault))

-- a load on an empty store
abbrev pub IsClosedEnd : Status → Type 0
IsClosedEnd (ends.NumbersSpent region last) = Unit {0}
IsClosedEnd status = IsReadingEnd status

-- a load
abbrev pub IsLoadEnd : Status → Type 0
IsLoadEnd (ends.NotEmpty name) = Unit {0}
IsLoadEnd status = IsClosedEnd status

-- with which the disk wasn't written to
abbrev pub LeavesStore : Status → Type 0
LeavesStore (ends.NotEmpty name) = Unit {0}
LeavesStore _ = ⊥
