use Rattle.std.proofs.Common.{◌≡◌, vec_len}
use Rattle.crossbeam_queue.specs.Passes.{view}
use Rattle.append_ring.specs.Parts.{EachThere, IsCounted, IsEqual}
use Rattle.append_ring.proofs.Places.{EqualLater}
use Rattle.append_ring.proofs.ring.Ring.close.Given as goal

abbrev pub invariant-loop-place : goal.invariant-loop-place
invariant-loop-place g l = record {
  of : l.consumer.pass.table_id ≡ l.fn.self.id;
  popped : (view l.consumer.pass).popped ≡ (view l.fn.consumer.pass).popped;
  there : EachThere (λ p. p.pass.table_id ≡ l.fn.self.id) l.places.items;
  counts : EachThere (IsCounted g.T.OfRegion.place (view l.fn.consumer.pass).popped) l.places.items;
  later : EqualLater (IsEqual g.T.OfRegion.place (view l.fn.consumer.pass).popped) l.fn.passes l.places.items;
}

abbrev pub decreases-loop-place : goal.decreases-loop-place
decreases-loop-place g l = vec_len l.places
