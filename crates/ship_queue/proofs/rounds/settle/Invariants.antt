use Rattle.std.proofs.Common.{◌≡◌, ◌∷◌, [], true}
use Rattle.std.specs.Prelude.{Some}
use Rattle.crossbeam_queue.specs.Passes.{view}
use Rattle.ship_queue.specs.Halves.{ShipsOn}
use Rattle.ship_queue.proofs.rounds.settle.Given as goal

abbrev pub invariant-loop-step : goal.invariant-loop-step
invariant-loop-step g l = record {
  keys : l.keys ≡ Some l.fn.key ∷ [];
  consumer : l.shipper.consumer.pass.table_id ≡ l.ring.id;
  regions : (view l.shipper.consumer.pass).lasts ≡ (view l.fn.shipper.consumer.pass).lasts;
  still : l.fn.shipper.has_failed ≡ true → l.shipper.has_failed ≡ true;
  ships : ShipsOn g.P.Peer.has g.P.Peer.torn g.P.Peer.stays g.P.Peer.faults l.fn.peer l.peer l.fn.shipper.count l.shipper.count l.fn.shipper.has_failed l.shipper.has_failed
      (view l.fn.shipper.consumer.pass).popped (view l.shipper.consumer.pass).popped;
}
