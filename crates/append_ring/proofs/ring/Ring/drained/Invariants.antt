use Rattle.std.proofs.Common.{take}
use Rattle.crossbeam_queue.specs.Passes.{view}
use Rattle.append_ring.specs.Parts.{EachThere, IsDrained}
use Rattle.append_ring.proofs.ring.Ring.drained.Given as goal

abbrev pub invariant-loop-place : goal.invariant-loop-place
invariant-loop-place g l = EachThere (IsDrained g.T.OfRegion.place (view l.consumer.pass).popped) (take l.place-index l.passes)
