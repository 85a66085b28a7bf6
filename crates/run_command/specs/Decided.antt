-- Which status a report has.
use Rattle.std.specs.Prelude.{Bool, true, false, ◌||◌, if◌then◌else◌, List, [], ◌∷◌, Option, Some, None}
use Rattle.region_model.specs.Calls.{Answer, PutMemory, ScanMemory, FlushMemory, RollMemory}
use Rattle.script_model.specs.Report.{ReplyLine}
use Rattle.run_model.specs.declared.spent.Spent.{Spent}
use Rattle.command_base.specs.declared.status.Status.{Status}
use Rattle.command_base.specs.declared.status.Status.TheVariants as ends

abbrev pub is_want : Answer → Bool
is_want (PutMemory n) = true
is_want ScanMemory = true
is_want FlushMemory = true
is_want RollMemory = true
is_want _ = false

abbrev pub wants_memory : List ReplyLine → Bool
wants_memory [] = false
wants_memory (x ∷ xs) = is_want x.answer || wants_memory xs

abbrev pub spent_or : Option Spent → Status → Status
spent_or None other = other
spent_or (Some spent) other = ends.NumbersSpent spent.region spent.last

-- a broken log, then numbers that are spent, then out of memory
abbrev pub decided : Bool → Option Spent → List ReplyLine → Status
decided broken spent lines = if broken then ends.DiskFault else spent_or spent (if wants_memory lines then ends.Memory else ends.Done)
