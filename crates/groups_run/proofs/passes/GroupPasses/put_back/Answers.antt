use Rattle.group_calls.specs.region_calls.Deals.{passes_out}
use Rattle.groups_run.proofs.Evens.{even_back}
use Rattle.groups_run.proofs.passes.GroupPasses.put_back.Goals as goal

pub put_back-requires-clause-of : goal.put_back-requires-clause-of
put_back-requires-clause-of g c = (c.requires.of.0.first, c.requires.of.1.first, c.requires.of.2.first)

pub put_back-requires-clause-out : goal.put_back-requires-clause-out
put_back-requires-clause-out g c = c.requires.room.first

pub put_back_at-requires-clause-of : goal.put_back_at-requires-clause-of
put_back_at-requires-clause-of g c = (c.requires.of.0.second, c.requires.of.1.second, c.requires.of.2.second)

pub put_back_at-requires-clause-room : goal.put_back_at-requires-clause-room
put_back_at-requires-clause-room g c = c.requires.room.second

pub put_back_at-requires-2-clause-of : goal.put_back_at-requires-2-clause-of
put_back_at-requires-2-clause-of g c = (c.requires.of.0.third, c.requires.of.1.third, c.requires.of.2.third)

pub put_back_at-requires-2-clause-room : goal.put_back_at-requires-2-clause-room
put_back_at-requires-2-clause-room g c = c.requires.room.third

pub put_back_at-requires-3-clause-of : goal.put_back_at-requires-3-clause-of
put_back_at-requires-3-clause-of g c = (c.requires.of.0.fourth, c.requires.of.1.fourth, c.requires.of.2.fourth)

pub put_back_at-requires-3-clause-room : goal.put_back_at-requires-3-clause-room
put_back_at-requires-3-clause-room g c = c.requires.room.fourth

pub returns-clause-back : goal.returns-clause-back
returns-clause-back g c = record {
  first = record { back = c.put_back.ensures.back; out = c.put_back.ensures.out };
  second = c.put_back_at.ensures.back;
  third = c.put_back_at-2.ensures.back;
  fourth = c.put_back_at-3.ensures.back;
}

pub returns-clause-of : goal.returns-clause-of
returns-clause-of g c s of is = record {
  first = c.put_back.ensures.of s.first of.first is.first;
  second = c.put_back_at.ensures.of s.second of.second is.second;
  third = c.put_back_at-2.ensures.of s.third of.third is.third;
  fourth = c.put_back_at-3.ensures.of s.fourth of.fourth is.fourth;
  second_even = even_back g.N1.LockNaming.handlers g.N2.LockNaming.handlers (passes_out c.args.self.now.first) (passes_out c.put_back.new.self) c.args.self.now.second c.args.pass.second c.put_back_at.new.passes of.second_even c.put_back_at.ensures.back c.put_back.ensures.out;
  third_even = even_back g.N1.LockNaming.handlers g.N3.LockNaming.handlers (passes_out c.args.self.now.first) (passes_out c.put_back.new.self) c.args.self.now.third c.args.pass.third c.put_back_at-2.new.passes of.third_even c.put_back_at-2.ensures.back c.put_back.ensures.out;
  fourth_even = even_back g.N1.LockNaming.handlers g.N4.LockNaming.handlers (passes_out c.args.self.now.first) (passes_out c.put_back.new.self) c.args.self.now.fourth c.args.pass.fourth c.put_back_at-3.new.passes of.fourth_even c.put_back_at-3.ensures.back c.put_back.ensures.out;
}
