use Rattle.std.proofs.Common.{map, take}
use Rattle.script_calls.specs.Calls.{call_of}
use Rattle.log_command.proofs.Framed.{FramedFew}
use Rattle.log_command.proofs.writing.add_frames.Given as goal

abbrev pub invariant-loop-call : goal.invariant-loop-call
invariant-loop-call l = FramedFew l.time l.initial.frames.items l.frames.items (map call_of (take l.call-index l.calls)) l.call-index
