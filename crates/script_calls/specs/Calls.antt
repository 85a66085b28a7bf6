-- A call as the definitions see it.
use Rattle.std.specs.Prelude.{Bool, true, false}
use Rattle.kv_cell.specs.declared.batch.Durability.{Durability}
use Rattle.kv_cell.specs.declared.batch.Durability.TheVariants.{Sync, Async}
use Rattle.region_model.specs.Calls.{Call as TheCall, Put, Scan, Raw, Flush, Roll, get_call}
use Rattle.script_calls.specs.declared.call.Call.{Call}
use Rattle.script_calls.specs.declared.call.Call.TheVariants as code

abbrev pub is_sync : Durability → Bool
is_sync Sync = true
is_sync Async = false

abbrev pub call_of : Call → TheCall
call_of (code.Put region durability batch) = Put region (is_sync durability) batch
call_of (code.Scan region from to) = Scan Raw region from to
call_of (code.Get region row versions) = get_call region row versions
call_of (code.Flush region family) = Flush region family
call_of code.Roll = Roll
