use Rattle.std.proofs.Common.{◌≡◌}
use Rattle.crossbeam_queue.specs.Passes.{view}
use Rattle.ship_queue.specs.Halves.{ShipsOn}
use Rattle.ship_queue.proofs.shipping_half.ShippingHalf.ship_on.Given as goal

abbrev pub invariant-loop-step : goal.invariant-loop-step
invariant-loop-step g l = record {
  ring : l.self.consumer.pass.table_id ≡ l.ring.id;
  regions : (view l.self.consumer.pass).lasts ≡ (view l.fn.self.consumer.pass).lasts;
  ships : ShipsOn g.P.Peer.has g.P.Peer.torn g.P.Peer.stays g.P.Peer.faults l.fn.peer l.peer l.fn.self.count l.self.count l.fn.self.has_failed l.self.has_failed
      (view l.fn.self.consumer.pass).popped (view l.self.consumer.pass).popped;
}
