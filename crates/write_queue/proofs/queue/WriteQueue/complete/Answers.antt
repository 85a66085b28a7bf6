use Rattle.std.proofs.Common.{◌+◌, ◌≤◌, subst, sym, arith}
use Rattle.write_queue.specs.Numbers.{Queue, IsOut}
use Rattle.write_queue.proofs.MarkLaws.{out_place, settled_after, settled_point}
use Rattle.write_queue.proofs.queue.WriteQueue.complete.Goals as goal

pub returns-clause-queue : goal.returns-clause-queue
returns-clause-queue c =
    let out = subst (λ (q : Queue). IsOut q.numbers c.args.entry) (sym c.self.view_is) c.requires in
    let read = c.self.inside.read in
    let place = out_place c.self.inside.last read c.args.entry c.self.inside.marks.items c.self.invariant.later out in
    rw (← c.self.view_is) (settled_after c.self.inside.last read c.args.entry c.settle.result c.self.inside.marks.items c.settle.new.marks.items c.self.invariant.later place.0 (rw c.«spend-number».ensures at c.settle.ensures.items))

pub returns-clause-point : goal.returns-clause-point
returns-clause-point c =
    let later : c.self.inside.last ≤ c.self.inside.read = c.self.invariant.later in
    settled_point c.self.inside.last (c.self.inside.read + c.settle.result) c.settle.new.marks.items (omega arith) c.settle.ensures.«open»
