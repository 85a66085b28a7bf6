use Rattle.std.proofs.Common.{◌≤◌, length, drop}
use Rattle.mem_segments.specs.Leader.{IsLed}
use Rattle.mem_segments.proofs.merge_iter.leader_of.Given as goal

abbrev pub invariant-loop-left : goal.invariant-loop-left
invariant-loop-left l = record {
  within : l.left ≤ length l.rests;
  led : IsLed l.left (drop l.left l.rests) l.leader;
}

abbrev pub decreases-loop-left : goal.decreases-loop-left
decreases-loop-left l = l.left
