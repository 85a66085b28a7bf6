use Rattle.std.proofs.Common.{IsTrue, [], sym, ◌∙◌}
use Rattle.crossbeam_queue.specs.Passes.{view}
use Rattle.ship_queue.specs.Halves.{all_given}
use Rattle.ship_queue.proofs.HalfLaws.{held_none, held_some}
use Rattle.ship_queue.proofs.reading_half.ReadingHalf.step.Goals as goal

pub returns-in-Read-clause-reads : goal.returns-in-Read-clause-reads
returns-in-Read-clause-reads g c =
    let key = c.args.self.now.key in
    record {
      on = λ p first was.
          held_some (IsTrue g.D.Disk.told) g.D.Disk.view g.D.Disk.faults p first c.read_once.new.tail c.read_once.new.disk [] key c.read_once.result
          (c.read_once.ensures.reads p first (all_given (view key.pass).pushed)
          (held_none (IsTrue g.D.Disk.told) g.D.Disk.view g.D.Disk.faults p first c.args.tail.now c.args.disk.now [] key c.args.self.now.stage (sym c.replace.ensures.value ∙ c.in-Read.is) was));
    }
