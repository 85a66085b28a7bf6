use Rattle.std.proofs.Common.{ℕ, sym, subst}
use Rattle.groups_model.specs.Groups.{group_of}
use Rattle.group_servers.specs.region_calls.Passes.{knows, IsPassOf}
use Rattle.group_servers.specs.Passes.{IsPassAt}
use Rattle.group_servers.specs.region_calls.Answers.{roll_answer}
use Rattle.group_calls.specs.Passes.{RollsOn, known}
use Rattle.group_calls.specs.Servers.{Servers}
use Rattle.group_calls.proofs.Elsewhere.{first_called, second_called, third_called, fourth_called}
use Rattle.group_calls.proofs.Handlers.{first_keeps, other_keeps}
use Rattle.group_calls.proofs.There.{on_group, second_here, third_here, fourth_here}
use Rattle.group_calls.proofs.groups.Groups.roll.Goals as goal

pub returns-in-1-clause-rolls : goal.returns-in-1-clause-rolls
returns-in-1-clause-rolls g c =
    subst (λ (k : ℕ). RollsOn (roll_answer c.roll.result) (known c.args.pass.now) (known (record { first = c.roll.new.pass; second = c.args.pass.now.second; third = c.args.pass.now.third; fourth = c.args.pass.now.fourth })) k) (sym (on_group c.args.self.now.count (known c.args.pass.now 1).handler c.handler.result c.group.result 1 c.handler.ensures c.group.ensures.is c.in-1.is)) c.roll.ensures.rolls

pub returns-in-2-clause-rolls : goal.returns-in-2-clause-rolls
returns-in-2-clause-rolls g c =
    subst (λ (k : ℕ). RollsOn (roll_answer c.roll_at.result) (known c.args.pass.now) (known (record { first = c.args.pass.now.first; second = c.roll_at.new.pass; third = c.args.pass.now.third; fourth = c.args.pass.now.fourth })) k) (sym (on_group c.args.self.now.count (known c.args.pass.now 1).handler c.handler.result c.group.result 2 c.handler.ensures c.group.ensures.is c.in-2.is)) c.roll_at.ensures.rolls

pub returns-in-3-clause-rolls : goal.returns-in-3-clause-rolls
returns-in-3-clause-rolls g c =
    subst (λ (k : ℕ). RollsOn (roll_answer c.roll_at-in-3.result) (known c.args.pass.now) (known (record { first = c.args.pass.now.first; second = c.args.pass.now.second; third = c.roll_at-in-3.new.pass; fourth = c.args.pass.now.fourth })) k) (sym (on_group c.args.self.now.count (known c.args.pass.now 1).handler c.handler.result c.group.result 3 c.handler.ensures c.group.ensures.is c.in-3.is)) c.roll_at-in-3.ensures.rolls

pub returns-in-4-clause-rolls : goal.returns-in-4-clause-rolls
returns-in-4-clause-rolls g c =
    subst (λ (k : ℕ). RollsOn (roll_answer c.roll_at-in-4.result) (known c.args.pass.now) (known (record { first = c.args.pass.now.first; second = c.args.pass.now.second; third = c.args.pass.now.third; fourth = c.roll_at-in-4.new.pass })) k) (sym (on_group c.args.self.now.count (known c.args.pass.now 1).handler c.handler.result c.group.result 4 c.handler.ensures c.group.ensures.is c.in-4.is)) c.roll_at-in-4.ensures.rolls

pub returns-in-1-clause-of : goal.returns-in-1-clause-of
returns-in-1-clause-of g c =
    let of = c.requires.of in
    record {
      first = subst (λ (s : Servers). IsPassOf s.first c.roll.new.pass) c.self.view_is c.roll.ensures.of;
      second = of.second;
      third = of.third;
      fourth = of.fourth;
      second_same = first_keeps (knows c.args.pass.now.first).handler (knows c.roll.new.pass).handler c.args.pass.now.second c.roll.ensures.rolls.later.handler of.second_same;
      third_same = first_keeps (knows c.args.pass.now.first).handler (knows c.roll.new.pass).handler c.args.pass.now.third c.roll.ensures.rolls.later.handler of.third_same;
      fourth_same = first_keeps (knows c.args.pass.now.first).handler (knows c.roll.new.pass).handler c.args.pass.now.fourth c.roll.ensures.rolls.later.handler of.fourth_same;
    }

pub returns-in-2-clause-of : goal.returns-in-2-clause-of
returns-in-2-clause-of g c =
    let of = c.requires.of in
    record {
      first = of.first;
      second = subst (λ (s : Servers). IsPassAt s.second c.roll_at.new.pass) c.self.view_is c.roll_at.ensures.of;
      third = of.third;
      fourth = of.fourth;
      second_same = other_keeps c.args.self.now.second (knows c.args.pass.now.first).handler c.args.pass.now.second c.roll_at.new.pass of.second (subst (λ (s : Servers). IsPassAt s.second c.roll_at.new.pass) c.self.view_is c.roll_at.ensures.of) c.roll_at.ensures.rolls.later.handler of.second_same;
      third_same = of.third_same;
      fourth_same = of.fourth_same;
    }

pub returns-in-3-clause-of : goal.returns-in-3-clause-of
returns-in-3-clause-of g c =
    let of = c.requires.of in
    record {
      first = of.first;
      second = of.second;
      third = subst (λ (s : Servers). IsPassAt s.third c.roll_at-in-3.new.pass) c.self.view_is c.roll_at-in-3.ensures.of;
      fourth = of.fourth;
      second_same = of.second_same;
      third_same = other_keeps c.args.self.now.third (knows c.args.pass.now.first).handler c.args.pass.now.third c.roll_at-in-3.new.pass of.third (subst (λ (s : Servers). IsPassAt s.third c.roll_at-in-3.new.pass) c.self.view_is c.roll_at-in-3.ensures.of) c.roll_at-in-3.ensures.rolls.later.handler of.third_same;
      fourth_same = of.fourth_same;
    }

pub returns-in-4-clause-of : goal.returns-in-4-clause-of
returns-in-4-clause-of g c =
    let of = c.requires.of in
    record {
      first = of.first;
      second = of.second;
      third = of.third;
      fourth = subst (λ (s : Servers). IsPassAt s.fourth c.roll_at-in-4.new.pass) c.self.view_is c.roll_at-in-4.ensures.of;
      second_same = of.second_same;
      third_same = of.third_same;
      fourth_same = other_keeps c.args.self.now.fourth (knows c.args.pass.now.first).handler c.args.pass.now.fourth c.roll_at-in-4.new.pass of.fourth (subst (λ (s : Servers). IsPassAt s.fourth c.roll_at-in-4.new.pass) c.self.view_is c.roll_at-in-4.ensures.of) c.roll_at-in-4.ensures.rolls.later.handler of.fourth_same;
    }

pub returns-in-1-clause-elsewhere : goal.returns-in-1-clause-elsewhere
returns-in-1-clause-elsewhere g c = first_called (group_of c.args.self.now.count (known c.args.pass.now 1).handler) c.args.pass.now c.roll.new.pass (on_group c.args.self.now.count (known c.args.pass.now 1).handler c.handler.result c.group.result 1 c.handler.ensures c.group.ensures.is c.in-1.is)

pub returns-in-2-clause-elsewhere : goal.returns-in-2-clause-elsewhere
returns-in-2-clause-elsewhere g c = second_called (group_of c.args.self.now.count (known c.args.pass.now 1).handler) c.args.pass.now c.roll_at.new.pass (on_group c.args.self.now.count (known c.args.pass.now 1).handler c.handler.result c.group.result 2 c.handler.ensures c.group.ensures.is c.in-2.is)

pub returns-in-3-clause-elsewhere : goal.returns-in-3-clause-elsewhere
returns-in-3-clause-elsewhere g c = third_called (group_of c.args.self.now.count (known c.args.pass.now 1).handler) c.args.pass.now c.roll_at-in-3.new.pass (on_group c.args.self.now.count (known c.args.pass.now 1).handler c.handler.result c.group.result 3 c.handler.ensures c.group.ensures.is c.in-3.is)

pub returns-in-4-clause-elsewhere : goal.returns-in-4-clause-elsewhere
returns-in-4-clause-elsewhere g c = fourth_called (group_of c.args.self.now.count (known c.args.pass.now 1).handler) c.args.pass.now c.roll_at-in-4.new.pass (on_group c.args.self.now.count (known c.args.pass.now 1).handler c.handler.result c.group.result 4 c.handler.ensures c.group.ensures.is c.in-4.is)

pub roll_at-requires-clause-there : goal.roll_at-requires-clause-there
roll_at-requires-clause-there g c = second_here _ c.args.self.now c.self.view_is c.self.invariant c.group.result c.group.ensures.there.1 c.in-2.is

pub roll_at-requires-in-3-clause-there : goal.roll_at-requires-in-3-clause-there
roll_at-requires-in-3-clause-there g c = third_here _ c.args.self.now c.self.view_is c.self.invariant c.group.result c.group.ensures.there.1 c.in-3.is

pub roll_at-requires-in-4-clause-there : goal.roll_at-requires-in-4-clause-there
roll_at-requires-in-4-clause-there g c = fourth_here _ c.args.self.now c.self.view_is c.self.invariant c.group.result c.group.ensures.there.1 c.in-4.is
