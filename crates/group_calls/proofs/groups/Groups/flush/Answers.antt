use Rattle.std.proofs.Common.{ℕ, option_map, sym, subst}
use Rattle.groups_model.specs.Groups.{group_of}
use Rattle.group_servers.specs.region_calls.Passes.{knows, IsPassOf}
use Rattle.group_servers.specs.Passes.{IsPassAt}
use Rattle.group_servers.specs.region_calls.Answers.{flush_answer}
use Rattle.group_calls.specs.Passes.{IsListedOn, IsNextOn, IsRegionOn, FlushesOn, known, named}
use Rattle.group_calls.specs.Servers.{Servers}
use Rattle.group_calls.proofs.Elsewhere.{first_called, second_called, third_called, fourth_called}
use Rattle.group_calls.proofs.Handlers.{first_keeps, other_keeps}
use Rattle.group_calls.proofs.There.{in_group, second_here, third_here, fourth_here}
use Rattle.group_calls.proofs.groups.Groups.flush.Goals as goal

pub flush-requires-clause-region : goal.flush-requires-clause-region
flush-requires-clause-region g c = subst (λ (k : ℕ). IsRegionOn (named g.N1.ServerNaming.name g.N2.ServerNaming.name g.N3.ServerNaming.name g.N4.ServerNaming.name) c.args.region k) (in_group c.args.self.now.count c.args.region c.group.result 1 c.group.ensures.is c.in-1.is) c.requires.region

pub flush-requires-clause-call : goal.flush-requires-clause-call
flush-requires-clause-call g c = subst (λ (k : ℕ). IsNextOn (known c.args.pass.now) c.args.call k) (in_group c.args.self.now.count c.args.region c.group.result 1 c.group.ensures.is c.in-1.is) c.requires.call

pub flush-requires-clause-listed : goal.flush-requires-clause-listed
flush-requires-clause-listed g c = subst (λ (k : ℕ). IsListedOn (named g.N1.ServerNaming.name g.N2.ServerNaming.name g.N3.ServerNaming.name g.N4.ServerNaming.name) c.args.region (known c.args.pass.now) c.args.call k) (in_group c.args.self.now.count c.args.region c.group.result 1 c.group.ensures.is c.in-1.is) c.requires.listed

pub returns-in-1-clause-flushes : goal.returns-in-1-clause-flushes
returns-in-1-clause-flushes g c =
    subst (λ (k : ℕ). FlushesOn (named g.N1.ServerNaming.name g.N2.ServerNaming.name g.N3.ServerNaming.name g.N4.ServerNaming.name) c.args.region (option_map (λ f. f.now) c.args.family) c.args.call (flush_answer c.flush.result) (known c.args.pass.now) (known (record { first = c.flush.new.pass; second = c.args.pass.now.second; third = c.args.pass.now.third; fourth = c.args.pass.now.fourth })) k) (sym (in_group c.args.self.now.count c.args.region c.group.result 1 c.group.ensures.is c.in-1.is)) c.flush.ensures.flushes

pub flush_at-requires-clause-region : goal.flush_at-requires-clause-region
flush_at-requires-clause-region g c = subst (λ (k : ℕ). IsRegionOn (named g.N1.ServerNaming.name g.N2.ServerNaming.name g.N3.ServerNaming.name g.N4.ServerNaming.name) c.args.region k) (in_group c.args.self.now.count c.args.region c.group.result 2 c.group.ensures.is c.in-2.is) c.requires.region

pub flush_at-requires-clause-call : goal.flush_at-requires-clause-call
flush_at-requires-clause-call g c = subst (λ (k : ℕ). IsNextOn (known c.args.pass.now) c.args.call k) (in_group c.args.self.now.count c.args.region c.group.result 2 c.group.ensures.is c.in-2.is) c.requires.call

pub flush_at-requires-clause-listed : goal.flush_at-requires-clause-listed
flush_at-requires-clause-listed g c = subst (λ (k : ℕ). IsListedOn (named g.N1.ServerNaming.name g.N2.ServerNaming.name g.N3.ServerNaming.name g.N4.ServerNaming.name) c.args.region (known c.args.pass.now) c.args.call k) (in_group c.args.self.now.count c.args.region c.group.result 2 c.group.ensures.is c.in-2.is) c.requires.listed

pub returns-in-2-clause-flushes : goal.returns-in-2-clause-flushes
returns-in-2-clause-flushes g c =
    subst (λ (k : ℕ). FlushesOn (named g.N1.ServerNaming.name g.N2.ServerNaming.name g.N3.ServerNaming.name g.N4.ServerNaming.name) c.args.region (option_map (λ f. f.now) c.args.family) c.args.call (flush_answer c.flush_at.result) (known c.args.pass.now) (known (record { first = c.args.pass.now.first; second = c.flush_at.new.pass; third = c.args.pass.now.third; fourth = c.args.pass.now.fourth })) k) (sym (in_group c.args.self.now.count c.args.region c.group.result 2 c.group.ensures.is c.in-2.is)) c.flush_at.ensures.flushes

pub flush_at-requires-in-3-clause-region : goal.flush_at-requires-in-3-clause-region
flush_at-requires-in-3-clause-region g c = subst (λ (k : ℕ). IsRegionOn (named g.N1.ServerNaming.name g.N2.ServerNaming.name g.N3.ServerNaming.name g.N4.ServerNaming.name) c.args.region k) (in_group c.args.self.now.count c.args.region c.group.result 3 c.group.ensures.is c.in-3.is) c.requires.region

pub flush_at-requires-in-3-clause-call : goal.flush_at-requires-in-3-clause-call
flush_at-requires-in-3-clause-call g c = subst (λ (k : ℕ). IsNextOn (known c.args.pass.now) c.args.call k) (in_group c.args.self.now.count c.args.region c.group.result 3 c.group.ensures.is c.in-3.is) c.requires.call

pub flush_at-requires-in-3-clause-listed : goal.flush_at-requires-in-3-clause-listed
flush_at-requires-in-3-clause-listed g c = subst (λ (k : ℕ). IsListedOn (named g.N1.ServerNaming.name g.N2.ServerNaming.name g.N3.ServerNaming.name g.N4.ServerNaming.name) c.args.region (known c.args.pass.now) c.args.call k) (in_group c.args.self.now.count c.args.region c.group.result 3 c.group.ensures.is c.in-3.is) c.requires.listed

pub returns-in-3-clause-flushes : goal.returns-in-3-clause-flushes
returns-in-3-clause-flushes g c =
    subst (λ (k : ℕ). FlushesOn (named g.N1.ServerNaming.name g.N2.ServerNaming.name g.N3.ServerNaming.name g.N4.ServerNaming.name) c.args.region (option_map (λ f. f.now) c.args.family) c.args.call (flush_answer c.flush_at-in-3.result) (known c.args.pass.now) (known (record { first = c.args.pass.now.first; second = c.args.pass.now.second; third = c.flush_at-in-3.new.pass; fourth = c.args.pass.now.fourth })) k) (sym (in_group c.args.self.now.count c.args.region c.group.result 3 c.group.ensures.is c.in-3.is)) c.flush_at-in-3.ensures.flushes

pub flush_at-requires-in-4-clause-region : goal.flush_at-requires-in-4-clause-region
flush_at-requires-in-4-clause-region g c = subst (λ (k : ℕ). IsRegionOn (named g.N1.ServerNaming.name g.N2.ServerNaming.name g.N3.ServerNaming.name g.N4.ServerNaming.name) c.args.region k) (in_group c.args.self.now.count c.args.region c.group.result 4 c.group.ensures.is c.in-4.is) c.requires.region

pub flush_at-requires-in-4-clause-call : goal.flush_at-requires-in-4-clause-call
flush_at-requires-in-4-clause-call g c = subst (λ (k : ℕ). IsNextOn (known c.args.pass.now) c.args.call k) (in_group c.args.self.now.count c.args.region c.group.result 4 c.group.ensures.is c.in-4.is) c.requires.call

pub flush_at-requires-in-4-clause-listed : goal.flush_at-requires-in-4-clause-listed
flush_at-requires-in-4-clause-listed g c = subst (λ (k : ℕ). IsListedOn (named g.N1.ServerNaming.name g.N2.ServerNaming.name g.N3.ServerNaming.name g.N4.ServerNaming.name) c.args.region (known c.args.pass.now) c.args.call k) (in_group c.args.self.now.count c.args.region c.group.result 4 c.group.ensures.is c.in-4.is) c.requires.listed

pub returns-in-4-clause-flushes : goal.returns-in-4-clause-flushes
returns-in-4-clause-flushes g c =
    subst (λ (k : ℕ). FlushesOn (named g.N1.ServerNaming.name g.N2.ServerNaming.name g.N3.ServerNaming.name g.N4.ServerNaming.name) c.args.region (option_map (λ f. f.now) c.args.family) c.args.call (flush_answer c.flush_at-in-4.result) (known c.args.pass.now) (known (record { first = c.args.pass.now.first; second = c.args.pass.now.second; third = c.args.pass.now.third; fourth = c.flush_at-in-4.new.pass })) k) (sym (in_group c.args.self.now.count c.args.region c.group.result 4 c.group.ensures.is c.in-4.is)) c.flush_at-in-4.ensures.flushes

pub returns-in-1-clause-of : goal.returns-in-1-clause-of
returns-in-1-clause-of g c =
    let of = c.requires.of in
    record {
      first = subst (λ (s : Servers). IsPassOf s.first c.flush.new.pass) c.self.view_is c.flush.ensures.of;
      second = of.second;
      third = of.third;
      fourth = of.fourth;
      second_same = first_keeps (knows c.args.pass.now.first).handler (knows c.flush.new.pass).handler c.args.pass.now.second c.flush.ensures.flushes.later.handler of.second_same;
      third_same = first_keeps (knows c.args.pass.now.first).handler (knows c.flush.new.pass).handler c.args.pass.now.third c.flush.ensures.flushes.later.handler of.third_same;
      fourth_same = first_keeps (knows c.args.pass.now.first).handler (knows c.flush.new.pass).handler c.args.pass.now.fourth c.flush.ensures.flushes.later.handler of.fourth_same;
    }

pub returns-in-2-clause-of : goal.returns-in-2-clause-of
returns-in-2-clause-of g c =
    let of = c.requires.of in
    record {
      first = of.first;
      second = subst (λ (s : Servers). IsPassAt s.second c.flush_at.new.pass) c.self.view_is c.flush_at.ensures.of;
      third = of.third;
      fourth = of.fourth;
      second_same = other_keeps c.args.self.now.second (knows c.args.pass.now.first).handler c.args.pass.now.second c.flush_at.new.pass of.second (subst (λ (s : Servers). IsPassAt s.second c.flush_at.new.pass) c.self.view_is c.flush_at.ensures.of) c.flush_at.ensures.flushes.later.handler of.second_same;
      third_same = of.third_same;
      fourth_same = of.fourth_same;
    }

pub returns-in-3-clause-of : goal.returns-in-3-clause-of
returns-in-3-clause-of g c =
    let of = c.requires.of in
    record {
      first = of.first;
      second = of.second;
      third = subst (λ (s : Servers). IsPassAt s.third c.flush_at-in-3.new.pass) c.self.view_is c.flush_at-in-3.ensures.of;
      fourth = of.fourth;
      second_same = of.second_same;
      third_same = other_keeps c.args.self.now.third (knows c.args.pass.now.first).handler c.args.pass.now.third c.flush_at-in-3.new.pass of.third (subst (λ (s : Servers). IsPassAt s.third c.flush_at-in-3.new.pass) c.self.view_is c.flush_at-in-3.ensures.of) c.flush_at-in-3.ensures.flushes.later.handler of.third_same;
      fourth_same = of.fourth_same;
    }

pub returns-in-4-clause-of : goal.returns-in-4-clause-of
returns-in-4-clause-of g c =
    let of = c.requires.of in
    record {
      first = of.first;
      second = of.second;
      third = of.third;
      fourth = subst (λ (s : Servers). IsPassAt s.fourth c.flush_at-in-4.new.pass) c.self.view_is c.flush_at-in-4.ensures.of;
      second_same = of.second_same;
      third_same = of.third_same;
      fourth_same = other_keeps c.args.self.now.fourth (knows c.args.pass.now.first).handler c.args.pass.now.fourth c.flush_at-in-4.new.pass of.fourth (subst (λ (s : Servers). IsPassAt s.fourth c.flush_at-in-4.new.pass) c.self.view_is c.flush_at-in-4.ensures.of) c.flush_at-in-4.ensures.flushes.later.handler of.fourth_same;
    }

pub returns-in-1-clause-elsewhere : goal.returns-in-1-clause-elsewhere
returns-in-1-clause-elsewhere g c = first_called (group_of c.args.self.now.count c.args.region) c.args.pass.now c.flush.new.pass (in_group c.args.self.now.count c.args.region c.group.result 1 c.group.ensures.is c.in-1.is)

pub returns-in-2-clause-elsewhere : goal.returns-in-2-clause-elsewhere
returns-in-2-clause-elsewhere g c = second_called (group_of c.args.self.now.count c.args.region) c.args.pass.now c.flush_at.new.pass (in_group c.args.self.now.count c.args.region c.group.result 2 c.group.ensures.is c.in-2.is)

pub returns-in-3-clause-elsewhere : goal.returns-in-3-clause-elsewhere
returns-in-3-clause-elsewhere g c = third_called (group_of c.args.self.now.count c.args.region) c.args.pass.now c.flush_at-in-3.new.pass (in_group c.args.self.now.count c.args.region c.group.result 3 c.group.ensures.is c.in-3.is)

pub returns-in-4-clause-elsewhere : goal.returns-in-4-clause-elsewhere
returns-in-4-clause-elsewhere g c = fourth_called (group_of c.args.self.now.count c.args.region) c.args.pass.now c.flush_at-in-4.new.pass (in_group c.args.self.now.count c.args.region c.group.result 4 c.group.ensures.is c.in-4.is)

pub flush_at-requires-clause-there : goal.flush_at-requires-clause-there
flush_at-requires-clause-there g c = second_here _ c.args.self.now c.self.view_is c.self.invariant c.group.result c.group.ensures.there.1 c.in-2.is

pub flush_at-requires-in-3-clause-there : goal.flush_at-requires-in-3-clause-there
flush_at-requires-in-3-clause-there g c = third_here _ c.args.self.now c.self.view_is c.self.invariant c.group.result c.group.ensures.there.1 c.in-3.is

pub flush_at-requires-in-4-clause-there : goal.flush_at-requires-in-4-clause-there
flush_at-requires-in-4-clause-there g c = fourth_here _ c.args.self.now c.self.view_is c.self.invariant c.group.result c.group.ensures.there.1 c.in-4.is
