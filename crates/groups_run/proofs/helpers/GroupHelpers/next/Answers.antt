use Rattle.std.proofs.Common.{refl, sym, ◌∙◌}
use Rattle.groups_run.specs.declared.helpers.GroupHelpers.{GroupHelpers}
use Rattle.groups_run.proofs.Held.{held_none, held_same}
use Rattle.groups_run.proofs.helpers.GroupHelpers.next.Goals as goal

pub returns-in-Some-clause-some : goal.returns-in-Some-clause-some
returns-in-Some-clause-some c =
    let new : GroupHelpers = record { first = c.next.new.self; second = c.args.self.now.second; third = c.args.self.now.third; fourth = c.args.self.now.fourth } in
    (c.in-Some.ensures.some, held_same 1 c.args.self.now new (λ other. absurd (other refl)) (λ _. refl) (λ _. refl) (λ _. refl))

pub returns-in-Some-clause-of : goal.returns-in-Some-clause-of
returns-in-Some-clause-of c s are = (
  record {
    first = (c.in-Some.ensures.of s.first are.first).0;
    second = are.second;
    third = are.third;
    fourth = are.fourth;
  },
  (c.in-Some.ensures.of s.first are.first).1,
)

pub returns-in-Some-next_seat_at-clause-some : goal.returns-in-Some-next_seat_at-clause-some
returns-in-Some-next_seat_at-clause-some c =
    let new : GroupHelpers = record { first = c.next.new.self; second = c.next_seat_at.new.helpers; third = c.args.self.now.third; fourth = c.args.self.now.fourth } in
    (c.in-Some-next_seat_at.ensures.some, held_same 2 c.args.self.now new (λ _. c.in-None.ensures.none.1 ∙ sym c.in-None.ensures.none.0) (λ other. absurd (other refl)) (λ _. refl) (λ _. refl))

pub returns-in-Some-next_seat_at-clause-of : goal.returns-in-Some-next_seat_at-clause-of
returns-in-Some-next_seat_at-clause-of c s are = (
  record {
    first = (c.in-None.ensures.of s.first are.first).0;
    second = (c.in-Some-next_seat_at.ensures.of s.second are.second).0;
    third = are.third;
    fourth = are.fourth;
  },
  (c.in-Some-next_seat_at.ensures.of s.second are.second).1,
)

pub returns-in-Some-next_seat_at-2-clause-some : goal.returns-in-Some-next_seat_at-2-clause-some
returns-in-Some-next_seat_at-2-clause-some c =
    let new : GroupHelpers = record { first = c.next.new.self; second = c.next_seat_at.new.helpers; third = c.next_seat_at-in-None-next_seat_at.new.helpers; fourth = c.args.self.now.fourth } in
    (c.in-Some-next_seat_at-2.ensures.some, held_same 3 c.args.self.now new (λ _. c.in-None.ensures.none.1 ∙ sym c.in-None.ensures.none.0) (λ _. c.in-None-next_seat_at.ensures.none.1 ∙ sym c.in-None-next_seat_at.ensures.none.0) (λ other. absurd (other refl)) (λ _. refl))

pub returns-in-Some-next_seat_at-2-clause-of : goal.returns-in-Some-next_seat_at-2-clause-of
returns-in-Some-next_seat_at-2-clause-of c s are = (
  record {
    first = (c.in-None.ensures.of s.first are.first).0;
    second = (c.in-None-next_seat_at.ensures.of s.second are.second).0;
    third = (c.in-Some-next_seat_at-2.ensures.of s.third are.third).0;
    fourth = are.fourth;
  },
  (c.in-Some-next_seat_at-2.ensures.of s.third are.third).1,
)

pub returns-in-Some-next_seat_at-3-clause-some : goal.returns-in-Some-next_seat_at-3-clause-some
returns-in-Some-next_seat_at-3-clause-some c =
    let new : GroupHelpers = record { first = c.next.new.self; second = c.next_seat_at.new.helpers; third = c.next_seat_at-in-None-next_seat_at.new.helpers; fourth = c.next_seat_at-in-None-next_seat_at-2.new.helpers } in
    (c.in-Some-next_seat_at-3.ensures.some, held_same 4 c.args.self.now new (λ _. c.in-None.ensures.none.1 ∙ sym c.in-None.ensures.none.0) (λ _. c.in-None-next_seat_at.ensures.none.1 ∙ sym c.in-None-next_seat_at.ensures.none.0) (λ _. c.in-None-next_seat_at-2.ensures.none.1 ∙ sym c.in-None-next_seat_at-2.ensures.none.0) (λ other. absurd (other refl)))

pub returns-in-Some-next_seat_at-3-clause-of : goal.returns-in-Some-next_seat_at-3-clause-of
returns-in-Some-next_seat_at-3-clause-of c s are = (
  record {
    first = (c.in-None.ensures.of s.first are.first).0;
    second = (c.in-None-next_seat_at.ensures.of s.second are.second).0;
    third = (c.in-None-next_seat_at-2.ensures.of s.third are.third).0;
    fourth = (c.in-Some-next_seat_at-3.ensures.of s.fourth are.fourth).0;
  },
  (c.in-Some-next_seat_at-3.ensures.of s.fourth are.fourth).1,
)

pub returns-in-None-next_seat_at-3-clause-none : goal.returns-in-None-next_seat_at-3-clause-none
returns-in-None-next_seat_at-3-clause-none c =
    held_none c.args.self.now (record { first = c.next.new.self; second = c.next_seat_at.new.helpers; third = c.next_seat_at-in-None-next_seat_at.new.helpers; fourth = c.next_seat_at-in-None-next_seat_at-2.new.helpers }) c.in-None.ensures.none c.in-None-next_seat_at.ensures.none c.in-None-next_seat_at-2.ensures.none c.in-None-next_seat_at-3.ensures.none

pub returns-in-None-next_seat_at-3-clause-of : goal.returns-in-None-next_seat_at-3-clause-of
returns-in-None-next_seat_at-3-clause-of c s are = (
  record {
    first = (c.in-None.ensures.of s.first are.first).0;
    second = (c.in-None-next_seat_at.ensures.of s.second are.second).0;
    third = (c.in-None-next_seat_at-2.ensures.of s.third are.third).0;
    fourth = (c.in-None-next_seat_at-3.ensures.of s.fourth are.fourth).0;
  },
  tt,
)
