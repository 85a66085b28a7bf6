use Rattle.mem_segments.proofs.Permuting.{AreNeighbours}
use Rattle.mem_segments.proofs.ordering.are_rising.Given as goal

abbrev pub invariant-loop-place : goal.invariant-loop-place
invariant-loop-place l = AreNeighbours l.place l.rows
