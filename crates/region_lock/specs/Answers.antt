-- What a report says of what a call answered.
use Rattle.std.specs.Prelude.{ℕ, Bool, true, false}
use Rattle.std.specs.declared.result.Result.{Result}
use Rattle.std.specs.declared.result.Result.TheVariants.{Ok, Err}
use Rattle.region_model.specs.Calls.{Answer, PutOk, PutMemory, PutFault, PutSpent, FlushOk, FlushNothing, FlushBusy, FlushFault, FlushMemory, RollOk, RollNothing, RollFault, RollMemory, Scanned, ScanMemory}
use Rattle.kv_cell.specs.declared.batch.Durability.{Durability}
use Rattle.kv_cell.specs.declared.batch.Durability.TheVariants as durability
use Rattle.kv_cell.specs.declared.error.NoMemory.{NoMemory}
use Rattle.log_service.specs.log_device.declared.error.DeviceFlush.{DeviceFlush}
use Rattle.log_service.specs.log_device.declared.error.DeviceFlush.TheVariants as device
use Rattle.log_service.specs.log_device.declared.error.Rolled.{Rolled}
use Rattle.log_service.specs.log_device.declared.error.RollRefusal.{RollRefusal}
use Rattle.log_service.specs.log_device.declared.error.RollRefusal.TheVariants as roll
use Rattle.region_lock.specs.declared.answers.PutRefusal.{PutRefusal}
use Rattle.region_lock.specs.declared.answers.PutRefusal.TheVariants as put
use Rattle.region_lock.specs.declared.answers.FlushRefusal.{FlushRefusal}
use Rattle.region_lock.specs.declared.answers.FlushRefusal.TheVariants as flush
use Rattle.region_lock.specs.declared.scan.ScanReply.{ScanReply}

abbrev pub is_sync : Durability → Bool
is_sync durability.Sync = true
is_sync durability.Async = false

abbrev pub put_answer : Result ℕ PutRefusal → Answer
put_answer (Ok n) = PutOk n
put_answer (Err (put.Memory logged)) = PutMemory logged
put_answer (Err (put.WriteFault number)) = PutFault number
put_answer (Err (put.NumbersSpent last)) = PutSpent last

abbrev pub scan_answer : Result ScanReply NoMemory → Answer
scan_answer (Ok reply) = Scanned reply.point reply.cells
scan_answer (Err e) = ScanMemory

abbrev pub flush_answer : Result ℕ FlushRefusal → Answer
flush_answer (Ok n) = FlushOk n
flush_answer (Err flush.Memory) = FlushMemory
flush_answer (Err flush.WriteFault) = FlushFault
flush_answer (Err (flush.Nothing n)) = FlushNothing n
flush_answer (Err (flush.Flushing by)) = FlushBusy by.handler by.call

-- a flush that the log refused
abbrev pub refused_flush : DeviceFlush → Answer
refused_flush device.Memory = FlushMemory
refused_flush device.WriteFault = FlushFault
refused_flush (device.Nothing n) = FlushNothing n

abbrev pub roll_answer : Result Rolled RollRefusal → Answer
roll_answer (Ok rolled) = RollOk rolled.closed rolled.entries
roll_answer (Err roll.Memory) = RollMemory
roll_answer (Err roll.WriteFault) = RollFault
roll_answer (Err (roll.NothingToRoll file)) = RollNothing file
