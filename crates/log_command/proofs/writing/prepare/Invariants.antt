use Rattle.std.proofs.Common.{[], List, take, ◌*◌}
use Rattle.std.specs.List.{flat_map}
use Rattle.region_model.specs.Calls.{Call}
use Rattle.log_command.proofs.Framed.{FramedFew}
use Rattle.log_command.proofs.writing.prepare.Given as goal

abbrev pub invariant-loop-calls : goal.invariant-loop-calls
invariant-loop-calls l = FramedFew l.script.time [] l.frames.items (flat_map (λ (calls : List Call). calls) (take l.calls-index l.script.handlers)) (l.calls-index * 16777216)
