-- What an answer means: a get is answered as a scan is, and its line names it.
use Rattle.std.specs.Prelude.{Bool, true, false, Some, None}
use Rattle.region_model.specs.Calls as model
use Rattle.script_calls.specs.declared.answer.Answer.{Answer}
use Rattle.script_calls.specs.declared.answer.Answer.TheVariants.{PutOk, PutMemory, PutMemoryAt, PutFault, PutFaultAt, PutSpent, Scanned, ScanMemory, Got, GetMemory, FlushOk, FlushNothing, FlushBusy, FlushFault, FlushMemory, RollOk, RollNothing, RollFault, RollMemory}

abbrev pub answer_of : Answer → model.Answer
answer_of (PutOk n) = model.PutOk n
answer_of PutMemory = model.PutMemory None
answer_of (PutMemoryAt n) = model.PutMemory (Some n)
answer_of PutFault = model.PutFault None
answer_of (PutFaultAt n) = model.PutFault (Some n)
answer_of (PutSpent last) = model.PutSpent last
answer_of (Scanned point cells) = model.Scanned point cells
answer_of ScanMemory = model.ScanMemory
answer_of (Got point cells) = model.Scanned point cells
answer_of GetMemory = model.ScanMemory
answer_of (FlushOk n) = model.FlushOk n
answer_of (FlushNothing n) = model.FlushNothing n
answer_of (FlushBusy handler call) = model.FlushBusy handler call
answer_of FlushFault = model.FlushFault
answer_of FlushMemory = model.FlushMemory
answer_of (RollOk file entries) = model.RollOk file entries
answer_of (RollNothing file) = model.RollNothing file
answer_of RollFault = model.RollFault
answer_of RollMemory = model.RollMemory

-- it answers a get
abbrev pub is_got : Answer → Bool
is_got (Got point cells) = true
is_got GetMemory = true
is_got _ = false
