use Rattle.std.proofs.Common.{drop}
use Rattle.disk_fakes.specs.Candidate.{IsSettled}
use Rattle.disk_fakes.proofs.op.is_settled.Given as goal

abbrev pub invariant-loop-op : goal.invariant-loop-op
invariant-loop-op l = IsSettled l.calls → IsSettled (drop l.op-index l.calls)
