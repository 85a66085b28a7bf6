use Rattle.std.proofs.Common.{IsTrue, length}
use Rattle.command_base.proofs.Going.{Writing}
use Rattle.command_base.proofs.output.write_all.Given as goal

abbrev pub invariant-loop-rest : goal.invariant-loop-rest
invariant-loop-rest g l = Writing (IsTrue g.K.Sink.told) g.K.Sink.taken g.K.Sink.faults l.initial.sink l.sink l.bytes l.rest

abbrev pub decreases-loop-rest : goal.decreases-loop-rest
decreases-loop-rest g l = length l.rest
