use Rattle.std.proofs.Common.{◌≡◌, sym, ◌∙◌}
use Rattle.group_calls.specs.region_calls.Deals.{passes_out}
use Rattle.group_calls.specs.region_calls.Passes.{knows}
use Rattle.groups_run.proofs.Evens.{even_left, even_next, even_same}
use Rattle.groups_run.proofs.Evens.{handed_out}
use Rattle.groups_run.proofs.passes.GroupPasses.next.Goals as goal

pub next-requires : goal.next-requires
next-requires g c = record { of = (c.requires.of.0.first, c.requires.of.1.first) }

pub next_at-second-requires-clause-of : goal.next_at-second-requires-clause-of
next_at-second-requires-clause-of g c = (c.requires.of.0.second, c.requires.of.1.second)

pub next_at-second-requires-clause-left : goal.next_at-second-requires-clause-left
next_at-second-requires-clause-left g c =
    even_left g.N1.LockNaming.handlers g.N2.LockNaming.handlers (passes_out c.args.self.now.first) c.args.self.now.second c.requires.of.1.second_even c.in-Some.ensures.some.0

pub next_at-third-requires-clause-of : goal.next_at-third-requires-clause-of
next_at-third-requires-clause-of g c = (c.requires.of.0.third, c.requires.of.1.third)

pub next_at-third-requires-clause-left : goal.next_at-third-requires-clause-left
next_at-third-requires-clause-left g c =
    even_left g.N1.LockNaming.handlers g.N3.LockNaming.handlers (passes_out c.args.self.now.first) c.args.self.now.third c.requires.of.1.third_even c.in-Some.ensures.some.0

pub next_at-fourth-requires-clause-of : goal.next_at-fourth-requires-clause-of
next_at-fourth-requires-clause-of g c = (c.requires.of.0.fourth, c.requires.of.1.fourth)

pub next_at-fourth-requires-clause-left : goal.next_at-fourth-requires-clause-left
next_at-fourth-requires-clause-left g c =
    even_left g.N1.LockNaming.handlers g.N4.LockNaming.handlers (passes_out c.args.self.now.first) c.args.self.now.fourth c.requires.of.1.fourth_even c.in-Some.ensures.some.0

pub returns-in-None-clause-of : goal.returns-in-None-clause-of
returns-in-None-clause-of g c s of =
    let out : passes_out c.next.new.self ≡ passes_out c.args.self.now.first = c.in-None.ensures.none.1 ∙ sym c.in-None.ensures.none.0 in (
      record {
        first = (c.next.ensures.of s.first of.first).0;
        second = of.second;
        third = of.third;
        fourth = of.fourth;
        second_even = even_same g.N1.LockNaming.handlers g.N2.LockNaming.handlers (passes_out c.args.self.now.first) (passes_out c.next.new.self) c.args.self.now.second of.second_even out;
        third_even = even_same g.N1.LockNaming.handlers g.N3.LockNaming.handlers (passes_out c.args.self.now.first) (passes_out c.next.new.self) c.args.self.now.third of.third_even out;
        fourth_even = even_same g.N1.LockNaming.handlers g.N4.LockNaming.handlers (passes_out c.args.self.now.first) (passes_out c.next.new.self) c.args.self.now.fourth of.fourth_even out;
      },
      tt,
    )

pub returns-in-Some-clause-some : goal.returns-in-Some-clause-some
returns-in-Some-clause-some g c = (
  c.in-Some.ensures.some.0,
  record {
    first = record { fresh = c.in-Some.ensures.some.2; out = c.in-Some.ensures.some.1; back = c.next.ensures.back };
    second = c.next_at-second.ensures.next;
    third = c.next_at-third.ensures.next;
    fourth = c.next_at-fourth.ensures.next;
  },
)

pub returns-in-Some-clause-of : goal.returns-in-Some-clause-of
returns-in-Some-clause-of g c s of = (
  record {
    first = (c.in-Some.ensures.of s.first of.first).0;
    second = (c.next_at-second.ensures.of s.second of.second).0;
    third = (c.next_at-third.ensures.of s.third of.third).0;
    fourth = (c.next_at-fourth.ensures.of s.fourth of.fourth).0;
    second_even = even_next g.N1.LockNaming.handlers g.N2.LockNaming.handlers (passes_out c.args.self.now.first) (passes_out c.next.new.self) c.args.self.now.second c.next_at-second.result c.next_at-second.new.passes of.second_even c.next_at-second.ensures.next c.in-Some.ensures.some.1;
    third_even = even_next g.N1.LockNaming.handlers g.N3.LockNaming.handlers (passes_out c.args.self.now.first) (passes_out c.next.new.self) c.args.self.now.third c.next_at-third.result c.next_at-third.new.passes of.third_even c.next_at-third.ensures.next c.in-Some.ensures.some.1;
    fourth_even = even_next g.N1.LockNaming.handlers g.N4.LockNaming.handlers (passes_out c.args.self.now.first) (passes_out c.next.new.self) c.args.self.now.fourth c.next_at-fourth.result c.next_at-fourth.new.passes of.fourth_even c.next_at-fourth.ensures.next c.in-Some.ensures.some.1;
  },
  record {
    first = (c.in-Some.ensures.of s.first of.first).1;
    second = (c.next_at-second.ensures.of s.second of.second).1;
    third = (c.next_at-third.ensures.of s.third of.third).1;
    fourth = (c.next_at-fourth.ensures.of s.fourth of.fourth).1;
    second_same = handed_out g.N1.LockNaming.handlers g.N2.LockNaming.handlers (passes_out c.args.self.now.first) (knows c.in-Some.first).handler c.args.self.now.second c.next_at-second.result c.next_at-second.new.passes of.second_even c.next_at-second.ensures.next c.in-Some.ensures.some.2.handler;
    third_same = handed_out g.N1.LockNaming.handlers g.N3.LockNaming.handlers (passes_out c.args.self.now.first) (knows c.in-Some.first).handler c.args.self.now.third c.next_at-third.result c.next_at-third.new.passes of.third_even c.next_at-third.ensures.next c.in-Some.ensures.some.2.handler;
    fourth_same = handed_out g.N1.LockNaming.handlers g.N4.LockNaming.handlers (passes_out c.args.self.now.first) (knows c.in-Some.first).handler c.args.self.now.fourth c.next_at-fourth.result c.next_at-fourth.new.passes of.fourth_even c.next_at-fourth.ensures.next c.in-Some.ensures.some.2.handler;
  },
)
