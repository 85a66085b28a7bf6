use Rattle.std.proofs.Common.{ap, subst, sym, ◌-◌, length, arith}
use Rattle.write_queue.specs.Numbers.{Numbers, Queue, IsIdle}
use Rattle.write_queue.proofs.MarkLaws.{none_left, nothing_behind}
use Rattle.write_queue.proofs.queue.WriteQueue.advance_to.Goals as goal

pub invariant_of-self : goal.invariant_of-self
invariant_of-self c =
    let idle = subst (λ (q : Queue). IsIdle q.numbers) (sym c.self.view_is) c.requires.idle in
    let none = none_left (c.self.inside.read - c.self.inside.last) c.self.inside.marks.items c.self.invariant.«open» idle in
    record { later = omega arith; «open» = c.self.invariant.«open»; limit = omega (arith, ap length none) }

pub returns : goal.returns
returns c =
    let idle = subst (λ (q : Queue). IsIdle q.numbers) (sym c.self.view_is) c.requires.idle in
    let none = none_left (c.self.inside.read - c.self.inside.last) c.self.inside.marks.items c.self.invariant.«open» idle in
    rw (← c.self.view_is) (ap (λ (n : Numbers). record { numbers = n; room = c.self.inside.marks.cap - c.self.inside.marks.len }) (nothing_behind c.args.number c.self.inside.marks.items none))
