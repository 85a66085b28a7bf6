use Rattle.std.proofs.Common.{◌≡◌, ◌+◌}
use Rattle.region_state.specs.Calls.{AreBelow}
use Rattle.region_state.specs.States.{write_point}
use Rattle.low_trials.proofs.edits.put_many.Given as goal

abbrev pub invariant-loop-call : goal.invariant-loop-call
invariant-loop-call l = AreBelow l.call l.state.lines × (write_point l.state + 1 ≡ l.call)
