use Rattle.std.proofs.Common.{ℕ, sym, subst}
use Rattle.groups_model.specs.Groups.{group_of}
use Rattle.group_servers.specs.region_calls.Passes.{knows, IsPassOf}
use Rattle.group_servers.specs.Passes.{IsPassAt}
use Rattle.group_servers.specs.region_calls.Answers.{is_sync, put_answer}
use Rattle.group_calls.specs.Passes.{IsNextOn, IsRegionOn, IsExactOn, PutsOn, known, named}
use Rattle.group_calls.specs.Servers.{Servers}
use Rattle.group_calls.proofs.Elsewhere.{first_called, second_called, third_called, fourth_called}
use Rattle.group_calls.proofs.Handlers.{first_keeps, other_keeps}
use Rattle.group_calls.proofs.There.{in_group, second_here, third_here, fourth_here}
use Rattle.group_calls.proofs.groups.Groups.put.Goals as goal

pub put_with-requires-clause-region : goal.put_with-requires-clause-region
put_with-requires-clause-region g c = subst (λ (k : ℕ). IsRegionOn (named g.N1.ServerNaming.name g.N2.ServerNaming.name g.N3.ServerNaming.name g.N4.ServerNaming.name) c.args.region k) (in_group c.args.self.now.count c.args.region c.group.result 1 c.group.ensures.is c.in-1.is) c.requires.region

pub put_with-requires-clause-call : goal.put_with-requires-clause-call
put_with-requires-clause-call g c = subst (λ (k : ℕ). IsNextOn (known c.args.pass.now) c.args.call k) (in_group c.args.self.now.count c.args.region c.group.result 1 c.group.ensures.is c.in-1.is) c.requires.call

pub returns-in-1-clause-puts : goal.returns-in-1-clause-puts
returns-in-1-clause-puts g c =
    subst (λ (k : ℕ). PutsOn (named g.N1.ServerNaming.name g.N2.ServerNaming.name g.N3.ServerNaming.name g.N4.ServerNaming.name) c.args.time c.args.region (is_sync c.args.durability) c.args.batch c.args.call (put_answer c.put_with.result) (known c.args.pass.now) (known (record { first = c.put_with.new.pass; second = c.args.pass.now.second; third = c.args.pass.now.third; fourth = c.args.pass.now.fourth })) k) (sym (in_group c.args.self.now.count c.args.region c.group.result 1 c.group.ensures.is c.in-1.is)) c.put_with.ensures.puts

pub returns-in-1-clause-exact : goal.returns-in-1-clause-exact
returns-in-1-clause-exact g c =
    subst (λ (k : ℕ). IsExactOn (is_sync c.args.durability) c.args.region c.put_with.result c.args.pass.now (record { first = c.put_with.new.pass; second = c.args.pass.now.second; third = c.args.pass.now.third; fourth = c.args.pass.now.fourth }) k) (sym (in_group c.args.self.now.count c.args.region c.group.result 1 c.group.ensures.is c.in-1.is)) c.put_with.ensures.exact

pub put_at-requires-clause-region : goal.put_at-requires-clause-region
put_at-requires-clause-region g c = subst (λ (k : ℕ). IsRegionOn (named g.N1.ServerNaming.name g.N2.ServerNaming.name g.N3.ServerNaming.name g.N4.ServerNaming.name) c.args.region k) (in_group c.args.self.now.count c.args.region c.group.result 2 c.group.ensures.is c.in-2.is) c.requires.region

pub put_at-requires-clause-call : goal.put_at-requires-clause-call
put_at-requires-clause-call g c = subst (λ (k : ℕ). IsNextOn (known c.args.pass.now) c.args.call k) (in_group c.args.self.now.count c.args.region c.group.result 2 c.group.ensures.is c.in-2.is) c.requires.call

pub returns-in-2-clause-puts : goal.returns-in-2-clause-puts
returns-in-2-clause-puts g c =
    subst (λ (k : ℕ). PutsOn (named g.N1.ServerNaming.name g.N2.ServerNaming.name g.N3.ServerNaming.name g.N4.ServerNaming.name) c.args.time c.args.region (is_sync c.args.durability) c.args.batch c.args.call (put_answer c.put_at.result) (known c.args.pass.now) (known (record { first = c.args.pass.now.first; second = c.put_at.new.pass; third = c.args.pass.now.third; fourth = c.args.pass.now.fourth })) k) (sym (in_group c.args.self.now.count c.args.region c.group.result 2 c.group.ensures.is c.in-2.is)) c.put_at.ensures.puts

pub returns-in-2-clause-exact : goal.returns-in-2-clause-exact
returns-in-2-clause-exact g c =
    subst (λ (k : ℕ). IsExactOn (is_sync c.args.durability) c.args.region c.put_at.result c.args.pass.now (record { first = c.args.pass.now.first; second = c.put_at.new.pass; third = c.args.pass.now.third; fourth = c.args.pass.now.fourth }) k) (sym (in_group c.args.self.now.count c.args.region c.group.result 2 c.group.ensures.is c.in-2.is)) c.put_at.ensures.exact

pub put_at-requires-in-3-clause-region : goal.put_at-requires-in-3-clause-region
put_at-requires-in-3-clause-region g c = subst (λ (k : ℕ). IsRegionOn (named g.N1.ServerNaming.name g.N2.ServerNaming.name g.N3.ServerNaming.name g.N4.ServerNaming.name) c.args.region k) (in_group c.args.self.now.count c.args.region c.group.result 3 c.group.ensures.is c.in-3.is) c.requires.region

pub put_at-requires-in-3-clause-call : goal.put_at-requires-in-3-clause-call
put_at-requires-in-3-clause-call g c = subst (λ (k : ℕ). IsNextOn (known c.args.pass.now) c.args.call k) (in_group c.args.self.now.count c.args.region c.group.result 3 c.group.ensures.is c.in-3.is) c.requires.call

pub returns-in-3-clause-puts : goal.returns-in-3-clause-puts
returns-in-3-clause-puts g c =
    subst (λ (k : ℕ). PutsOn (named g.N1.ServerNaming.name g.N2.ServerNaming.name g.N3.ServerNaming.name g.N4.ServerNaming.name) c.args.time c.args.region (is_sync c.args.durability) c.args.batch c.args.call (put_answer c.put_at-in-3.result) (known c.args.pass.now) (known (record { first = c.args.pass.now.first; second = c.args.pass.now.second; third = c.put_at-in-3.new.pass; fourth = c.args.pass.now.fourth })) k) (sym (in_group c.args.self.now.count c.args.region c.group.result 3 c.group.ensures.is c.in-3.is)) c.put_at-in-3.ensures.puts

pub returns-in-3-clause-exact : goal.returns-in-3-clause-exact
returns-in-3-clause-exact g c =
    subst (λ (k : ℕ). IsExactOn (is_sync c.args.durability) c.args.region c.put_at-in-3.result c.args.pass.now (record { first = c.args.pass.now.first; second = c.args.pass.now.second; third = c.put_at-in-3.new.pass; fourth = c.args.pass.now.fourth }) k) (sym (in_group c.args.self.now.count c.args.region c.group.result 3 c.group.ensures.is c.in-3.is)) c.put_at-in-3.ensures.exact

pub put_at-requires-in-4-clause-region : goal.put_at-requires-in-4-clause-region
put_at-requires-in-4-clause-region g c = subst (λ (k : ℕ). IsRegionOn (named g.N1.ServerNaming.name g.N2.ServerNaming.name g.N3.ServerNaming.name g.N4.ServerNaming.name) c.args.region k) (in_group c.args.self.now.count c.args.region c.group.result 4 c.group.ensures.is c.in-4.is) c.requires.region

pub put_at-requires-in-4-clause-call : goal.put_at-requires-in-4-clause-call
put_at-requires-in-4-clause-call g c = subst (λ (k : ℕ). IsNextOn (known c.args.pass.now) c.args.call k) (in_group c.args.self.now.count c.args.region c.group.result 4 c.group.ensures.is c.in-4.is) c.requires.call

pub returns-in-4-clause-puts : goal.returns-in-4-clause-puts
returns-in-4-clause-puts g c =
    subst (λ (k : ℕ). PutsOn (named g.N1.ServerNaming.name g.N2.ServerNaming.name g.N3.ServerNaming.name g.N4.ServerNaming.name) c.args.time c.args.region (is_sync c.args.durability) c.args.batch c.args.call (put_answer c.put_at-in-4.result) (known c.args.pass.now) (known (record { first = c.args.pass.now.first; second = c.args.pass.now.second; third = c.args.pass.now.third; fourth = c.put_at-in-4.new.pass })) k) (sym (in_group c.args.self.now.count c.args.region c.group.result 4 c.group.ensures.is c.in-4.is)) c.put_at-in-4.ensures.puts

pub returns-in-4-clause-exact : goal.returns-in-4-clause-exact
returns-in-4-clause-exact g c =
    subst (λ (k : ℕ). IsExactOn (is_sync c.args.durability) c.args.region c.put_at-in-4.result c.args.pass.now (record { first = c.args.pass.now.first; second = c.args.pass.now.second; third = c.args.pass.now.third; fourth = c.put_at-in-4.new.pass }) k) (sym (in_group c.args.self.now.count c.args.region c.group.result 4 c.group.ensures.is c.in-4.is)) c.put_at-in-4.ensures.exact

pub returns-in-1-clause-of : goal.returns-in-1-clause-of
returns-in-1-clause-of g c =
    let of = c.requires.of in
    record {
      first = subst (λ (s : Servers). IsPassOf s.first c.put_with.new.pass) c.self.view_is c.put_with.ensures.of;
      second = of.second;
      third = of.third;
      fourth = of.fourth;
      second_same = first_keeps (knows c.args.pass.now.first).handler (knows c.put_with.new.pass).handler c.args.pass.now.second c.put_with.ensures.puts.later.handler of.second_same;
      third_same = first_keeps (knows c.args.pass.now.first).handler (knows c.put_with.new.pass).handler c.args.pass.now.third c.put_with.ensures.puts.later.handler of.third_same;
      fourth_same = first_keeps (knows c.args.pass.now.first).handler (knows c.put_with.new.pass).handler c.args.pass.now.fourth c.put_with.ensures.puts.later.handler of.fourth_same;
    }

pub returns-in-2-clause-of : goal.returns-in-2-clause-of
returns-in-2-clause-of g c =
    let of = c.requires.of in
    record {
      first = of.first;
      second = subst (λ (s : Servers). IsPassAt s.second c.put_at.new.pass) c.self.view_is c.put_at.ensures.of;
      third = of.third;
      fourth = of.fourth;
      second_same = other_keeps c.args.self.now.second (knows c.args.pass.now.first).handler c.args.pass.now.second c.put_at.new.pass of.second (subst (λ (s : Servers). IsPassAt s.second c.put_at.new.pass) c.self.view_is c.put_at.ensures.of) c.put_at.ensures.puts.later.handler of.second_same;
      third_same = of.third_same;
      fourth_same = of.fourth_same;
    }

pub returns-in-3-clause-of : goal.returns-in-3-clause-of
returns-in-3-clause-of g c =
    let of = c.requires.of in
    record {
      first = of.first;
      second = of.second;
      third = subst (λ (s : Servers). IsPassAt s.third c.put_at-in-3.new.pass) c.self.view_is c.put_at-in-3.ensures.of;
      fourth = of.fourth;
      second_same = of.second_same;
      third_same = other_keeps c.args.self.now.third (knows c.args.pass.now.first).handler c.args.pass.now.third c.put_at-in-3.new.pass of.third (subst (λ (s : Servers). IsPassAt s.third c.put_at-in-3.new.pass) c.self.view_is c.put_at-in-3.ensures.of) c.put_at-in-3.ensures.puts.later.handler of.third_same;
      fourth_same = of.fourth_same;
    }

pub returns-in-4-clause-of : goal.returns-in-4-clause-of
returns-in-4-clause-of g c =
    let of = c.requires.of in
    record {
      first = of.first;
      second = of.second;
      third = of.third;
      fourth = subst (λ (s : Servers). IsPassAt s.fourth c.put_at-in-4.new.pass) c.self.view_is c.put_at-in-4.ensures.of;
      second_same = of.second_same;
      third_same = of.third_same;
      fourth_same = other_keeps c.args.self.now.fourth (knows c.args.pass.now.first).handler c.args.pass.now.fourth c.put_at-in-4.new.pass of.fourth (subst (λ (s : Servers). IsPassAt s.fourth c.put_at-in-4.new.pass) c.self.view_is c.put_at-in-4.ensures.of) c.put_at-in-4.ensures.puts.later.handler of.fourth_same;
    }

pub returns-in-1-clause-elsewhere : goal.returns-in-1-clause-elsewhere
returns-in-1-clause-elsewhere g c = first_called (group_of c.args.self.now.count c.args.region) c.args.pass.now c.put_with.new.pass (in_group c.args.self.now.count c.args.region c.group.result 1 c.group.ensures.is c.in-1.is)

pub returns-in-2-clause-elsewhere : goal.returns-in-2-clause-elsewhere
returns-in-2-clause-elsewhere g c = second_called (group_of c.args.self.now.count c.args.region) c.args.pass.now c.put_at.new.pass (in_group c.args.self.now.count c.args.region c.group.result 2 c.group.ensures.is c.in-2.is)

pub returns-in-3-clause-elsewhere : goal.returns-in-3-clause-elsewhere
returns-in-3-clause-elsewhere g c = third_called (group_of c.args.self.now.count c.args.region) c.args.pass.now c.put_at-in-3.new.pass (in_group c.args.self.now.count c.args.region c.group.result 3 c.group.ensures.is c.in-3.is)

pub returns-in-4-clause-elsewhere : goal.returns-in-4-clause-elsewhere
returns-in-4-clause-elsewhere g c = fourth_called (group_of c.args.self.now.count c.args.region) c.args.pass.now c.put_at-in-4.new.pass (in_group c.args.self.now.count c.args.region c.group.result 4 c.group.ensures.is c.in-4.is)

pub put_at-requires-clause-there : goal.put_at-requires-clause-there
put_at-requires-clause-there g c = second_here _ c.args.self.now c.self.view_is c.self.invariant c.group.result c.group.ensures.there.1 c.in-2.is

pub put_at-requires-in-3-clause-there : goal.put_at-requires-in-3-clause-there
put_at-requires-in-3-clause-there g c = third_here _ c.args.self.now c.self.view_is c.self.invariant c.group.result c.group.ensures.there.1 c.in-3.is

pub put_at-requires-in-4-clause-there : goal.put_at-requires-in-4-clause-there
put_at-requires-in-4-clause-there g c = fourth_here _ c.args.self.now c.self.view_is c.self.invariant c.group.result c.group.ensures.there.1 c.in-4.is
