use Rattle.std.proofs.Common.{drop}
use Rattle.disk_fakes.specs.Candidate.{IsPinned}
use Rattle.disk_fakes.proofs.op.is_pinned.Given as goal

abbrev pub invariant-loop-op : goal.invariant-loop-op
invariant-loop-op l = IsPinned l.calls l.name → IsPinned (drop l.op-index l.calls) l.name
