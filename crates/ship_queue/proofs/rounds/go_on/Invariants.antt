use Rattle.std.proofs.Common.{◌≡◌, IsTrue}
use Rattle.crossbeam_queue.specs.Passes.{view}
use Rattle.ship_queue.specs.Halves.{HoldsWhole, IsKeyOf, ReadsOn, ShipsOn}
use Rattle.ship_queue.proofs.rounds.go_on.Given as goal

abbrev pub invariant-loop-round : goal.invariant-loop-round
invariant-loop-round g l = record {
  key : IsKeyOf l.ring l.reader.key;
  whole : HoldsWhole l.reader.stage;
  consumer : l.shipper.consumer.pass.table_id ≡ l.ring.id;
  regions : (view l.shipper.consumer.pass).lasts ≡ (view l.fn.shipper.consumer.pass).lasts;
  reads : ReadsOn (IsTrue g.D.Disk.told) g.D.Disk.view g.D.Disk.faults l.fn.tail l.tail l.fn.disk l.disk l.fn.reader l.reader;
  ships : ShipsOn g.P.Peer.has g.P.Peer.torn g.P.Peer.stays g.P.Peer.faults l.fn.peer l.peer l.fn.shipper.count l.shipper.count l.fn.shipper.has_failed l.shipper.has_failed
      (view l.fn.shipper.consumer.pass).popped (view l.shipper.consumer.pass).popped;
}
