use Rattle.std.proofs.Common.{IsTrue, Err, true, refl, ap}
use Rattle.ship_queue.proofs.HalfLaws.{read_more, read_last, read_refused}
use Rattle.ship_queue.proofs.reading_half.read_once.Goals as goal

pub returns-then-reading-clause-reads : goal.returns-then-reading-clause-reads
returns-then-reading-clause-reads g c p first xs was =
    read_last (IsTrue g.D.Disk.told) g.D.Disk.view g.D.Disk.faults p first c.args.tail.now c.args.disk.now xs c.read_next.new.tail c.read_next.new.disk was c.in-Ok.ensures.looks
    c.in-Ok.reading.entries (c.in-Ok.ensures.stays c.if-reading.true) (c.in-Ok.ensures.none c.if-reading.true) c.in-Ok.ensures.reads (λ told. c.in-Ok.ensures.last told c.if-reading.true) c.in-Ok.ensures.cause.later

pub returns-else-reading-clause-reads : goal.returns-else-reading-clause-reads
returns-else-reading-clause-reads g c p first xs was =
    read_more (IsTrue g.D.Disk.told) g.D.Disk.view g.D.Disk.faults p first c.args.tail.now c.args.disk.now xs c.read_next.new.tail c.read_next.new.disk was c.in-Ok.ensures.looks
    c.in-Ok.reading c.in-Ok.ensures.reads c.in-Ok.ensures.read c.in-Ok.ensures.cause.later

pub returns-in-Err-clause-reads : goal.returns-in-Err-clause-reads
returns-in-Err-clause-reads g c p first xs was =
    read_refused (IsTrue g.D.Disk.told) g.D.Disk.view g.D.Disk.faults p first c.args.tail.now c.args.disk.now xs c.read_next.new.tail c.read_next.new.disk was c.in-Err.ensures.looks
    c.in-Err.e (c.in-Err.ensures.same (refl {a = true})) c.in-Err.ensures.refused (record { later = c.in-Err.ensures.cause.later; risen = λ is. c.in-Err.ensures.cause.risen (ap Err is) })
