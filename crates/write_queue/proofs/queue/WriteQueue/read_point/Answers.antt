use Rattle.std.proofs.Common.{subst}
use Rattle.region_model.specs.Journal.{IsPoint}
use Rattle.write_queue.specs.Numbers.{Queue, completed}
use Rattle.write_queue.proofs.MarkLaws.{settled_point}
use Rattle.write_queue.proofs.queue.WriteQueue.read_point.Goals as goal

pub returns : goal.returns
returns c =
    let P : Queue → Type 0 = λ q. IsPoint q.numbers.last (completed q.numbers) c.self.inside.read in
    subst P c.self.view_is (settled_point c.self.inside.last c.self.inside.read c.self.inside.marks.items c.self.invariant.later c.self.invariant.«open»)
