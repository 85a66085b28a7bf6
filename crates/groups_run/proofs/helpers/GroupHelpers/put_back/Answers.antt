use Rattle.std.proofs.Common.{refl, arith}
use Rattle.groups_run.specs.declared.helpers.GroupHelpers.{GroupHelpers}
use Rattle.groups_run.proofs.Held.{held_same, seats_there}
use Rattle.group_calls.proofs.Seats.{seat_within}
use Rattle.groups_run.proofs.helpers.GroupHelpers.put_back.Goals as goal

pub put_back-requires : goal.put_back-requires
put_back-requires c = rw c.in-1.is at c.requires.room

pub put_seat_back_at-requires-clause-there : goal.put_seat_back_at-requires-clause-there
put_seat_back_at-requires-clause-there c =
    let is = rw c.in-2.is at c.requires.of.2 in
    seats_there c.requires.of.0.second c.args.self.now.second c.args.helper.seat c.requires.of.1.second is

pub put_seat_back_at-requires-clause-room : goal.put_seat_back_at-requires-clause-room
put_seat_back_at-requires-clause-room c = rw c.in-2.is at c.requires.room

pub put_seat_back_at-requires-in-3-clause-there : goal.put_seat_back_at-requires-in-3-clause-there
put_seat_back_at-requires-in-3-clause-there c =
    let is = rw c.in-3.is at c.requires.of.2 in
    seats_there c.requires.of.0.third c.args.self.now.third c.args.helper.seat c.requires.of.1.third is

pub put_seat_back_at-requires-in-3-clause-room : goal.put_seat_back_at-requires-in-3-clause-room
put_seat_back_at-requires-in-3-clause-room c = rw c.in-3.is at c.requires.room

pub put_seat_back_at-requires-in-4-clause-there : goal.put_seat_back_at-requires-in-4-clause-there
put_seat_back_at-requires-in-4-clause-there c =
    let is = rw c.in-4.is at c.requires.of.2 in
    seats_there c.requires.of.0.fourth c.args.self.now.fourth c.args.helper.seat c.requires.of.1.fourth is

pub put_seat_back_at-requires-in-4-clause-room : goal.put_seat_back_at-requires-in-4-clause-room
put_seat_back_at-requires-in-4-clause-room c = rw c.in-4.is at c.requires.room

pub returns-in-1-clause-count : goal.returns-in-1-clause-count
returns-in-1-clause-count c = rw c.in-1.is c.put_back.ensures.count

pub returns-in-1-clause-others : goal.returns-in-1-clause-others
returns-in-1-clause-others c =
    let new : GroupHelpers = record { first = c.put_back.new.self; second = c.args.self.now.second; third = c.args.self.now.third; fourth = c.args.self.now.fourth } in
    rw c.in-1.is (held_same 1 c.args.self.now new (λ other. absurd (other refl)) (λ _. refl) (λ _. refl) (λ _. refl))

pub returns-in-1-clause-of : goal.returns-in-1-clause-of
returns-in-1-clause-of c s are is =
    let here = rw c.in-1.is at is in
    record {
      first = c.put_back.ensures.of s.first are.first here;
      second = are.second;
      third = are.third;
      fourth = are.fourth;
    }

pub returns-in-2-clause-count : goal.returns-in-2-clause-count
returns-in-2-clause-count c = rw c.in-2.is c.put_seat_back_at.ensures.count

pub returns-in-2-clause-others : goal.returns-in-2-clause-others
returns-in-2-clause-others c =
    let new : GroupHelpers = record { first = c.args.self.now.first; second = c.put_seat_back_at.new.helpers; third = c.args.self.now.third; fourth = c.args.self.now.fourth } in
    rw c.in-2.is (held_same 2 c.args.self.now new (λ _. refl) (λ other. absurd (other refl)) (λ _. refl) (λ _. refl))

pub returns-in-2-clause-of : goal.returns-in-2-clause-of
returns-in-2-clause-of c s are is =
    let here = rw c.in-2.is at is in
    record {
      first = are.first;
      second = c.put_seat_back_at.ensures.of s.second are.second here;
      third = are.third;
      fourth = are.fourth;
    }

pub returns-in-3-clause-count : goal.returns-in-3-clause-count
returns-in-3-clause-count c = rw c.in-3.is c.put_seat_back_at-in-3.ensures.count

pub returns-in-3-clause-others : goal.returns-in-3-clause-others
returns-in-3-clause-others c =
    let new : GroupHelpers = record { first = c.args.self.now.first; second = c.args.self.now.second; third = c.put_seat_back_at-in-3.new.helpers; fourth = c.args.self.now.fourth } in
    rw c.in-3.is (held_same 3 c.args.self.now new (λ _. refl) (λ _. refl) (λ other. absurd (other refl)) (λ _. refl))

pub returns-in-3-clause-of : goal.returns-in-3-clause-of
returns-in-3-clause-of c s are is =
    let here = rw c.in-3.is at is in
    record {
      first = are.first;
      second = are.second;
      third = c.put_seat_back_at-in-3.ensures.of s.third are.third here;
      fourth = are.fourth;
    }

pub returns-in-4-clause-count : goal.returns-in-4-clause-count
returns-in-4-clause-count c = rw c.in-4.is c.put_seat_back_at-in-4.ensures.count

pub returns-in-4-clause-others : goal.returns-in-4-clause-others
returns-in-4-clause-others c =
    let new : GroupHelpers = record { first = c.args.self.now.first; second = c.args.self.now.second; third = c.args.self.now.third; fourth = c.put_seat_back_at-in-4.new.helpers } in
    rw c.in-4.is (held_same 4 c.args.self.now new (λ _. refl) (λ _. refl) (λ _. refl) (λ other. absurd (other refl)))

pub returns-in-4-clause-of : goal.returns-in-4-clause-of
returns-in-4-clause-of c s are is =
    let here = rw c.in-4.is at is in
    record {
      first = are.first;
      second = are.second;
      third = are.third;
      fourth = c.put_seat_back_at-in-4.ensures.of s.fourth are.fourth here;
    }

pub unreachable-requires : goal.unreachable-requires
unreachable-requires c =
    let within = seat_within c.requires.of.0 c.args.helper.group c.args.helper.seat c.requires.of.2 in
    omega (arith, within.0, within.1)
