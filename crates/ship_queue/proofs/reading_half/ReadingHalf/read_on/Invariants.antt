use Rattle.std.proofs.Common.{IsTrue}
use Rattle.ship_queue.specs.Halves.{HoldsWhole, IsKeyOf, ReadsOn}
use Rattle.ship_queue.proofs.reading_half.ReadingHalf.read_on.Given as goal

abbrev pub invariant-loop-step : goal.invariant-loop-step
invariant-loop-step g l = record {
  key : IsKeyOf l.ring l.self.key;
  whole : HoldsWhole l.self.stage;
  reads : ReadsOn (IsTrue g.D.Disk.told) g.D.Disk.view g.D.Disk.faults l.fn.tail l.tail l.fn.disk l.disk l.fn.self l.self;
}
