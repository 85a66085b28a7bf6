-- What a flush answered is of the log.
use Rattle.std.specs.Prelude.{◌≡◌, ℕ, false, List, Option}
use Rattle.std.specs.declared.result.Result.{Result}
use Rattle.std.specs.declared.result.Result.TheVariants.{Ok, Err}
use Rattle.disk_images.specs.declared.disk.Disk.{Ghosts as Disks}
use Rattle.log_service.specs.log_device.declared.error.DeviceFlush.{DeviceFlush}
use Rattle.log_service.specs.log_device.declared.error.DeviceFlush.TheVariants as device
use Rattle.log_service.specs.log_halves.declared.name.ServiceNaming.{Ghosts as Names}
use Rattle.log_service.specs.declared.seats.LogSeat.{LogSeat}
use Rattle.log_service.specs.Turns.{HasFlushedFamily}
use Rattle.region_lock.specs.declared.answers.FlushRefusal.{FlushRefusal}
use Rattle.region_lock.specs.declared.answers.FlushRefusal.TheVariants as flush

-- the log's refusal as a flush's
abbrev pub refused_as : DeviceFlush → FlushRefusal
refused_as device.Memory = flush.Memory
refused_as device.WriteFault = flush.WriteFault
refused_as (device.Nothing n) = flush.Nothing n

module _ {D N : Type 0} (d : Disks D) (g : Names N) (n r : ℕ) (family : Option (List ℕ)) (seat : LogSeat) where
  -- unless the log is broken, a half of this service answered so, and the seat has seen its words
  abbrev pub IsOfLog : Result ℕ DeviceFlush → Type 0
  IsOfLog result = seat.device.knows.broken ≡ false → HasFlushedFamily d g n r family result seat.device.knows

  -- so of each answer but that another flush is under way
  abbrev pub FlushesLog : Result ℕ FlushRefusal → Type 0
  FlushesLog (Ok m) = IsOfLog (Ok m)
  FlushesLog (Err flush.Memory) = IsOfLog (Err device.Memory)
  FlushesLog (Err flush.WriteFault) = IsOfLog (Err device.WriteFault)
  FlushesLog (Err (flush.Nothing m)) = IsOfLog (Err (device.Nothing m))
  FlushesLog (Err (flush.Flushing by)) = Unit {0}
