use Rattle.std.proofs.Common.{ℕ, sym, subst}
use Rattle.groups_model.specs.Groups.{group_of}
use Rattle.group_servers.specs.region_calls.Passes.{knows, IsPassOf}
use Rattle.group_servers.specs.Passes.{IsPassAt}
use Rattle.group_servers.specs.region_calls.Answers.{scan_answer}
use Rattle.group_calls.specs.Passes.{IsRegionOn, ScansOn, known, named}
use Rattle.group_calls.specs.Servers.{Servers}
use Rattle.group_calls.proofs.Elsewhere.{first_called, second_called, third_called, fourth_called}
use Rattle.group_calls.proofs.Handlers.{first_keeps, other_keeps}
use Rattle.group_calls.proofs.There.{in_group, second_here, third_here, fourth_here}
use Rattle.group_calls.proofs.groups.Groups.scan.Goals as goal

pub scan-requires-clause-region : goal.scan-requires-clause-region
scan-requires-clause-region g c = subst (λ (k : ℕ). IsRegionOn (named g.N1.ServerNaming.name g.N2.ServerNaming.name g.N3.ServerNaming.name g.N4.ServerNaming.name) c.args.region k) (in_group c.args.self.now.count c.args.region c.group.result 1 c.group.ensures.is c.in-1.is) c.requires.region

pub returns-in-1-clause-scans : goal.returns-in-1-clause-scans
returns-in-1-clause-scans g c =
    subst (λ (k : ℕ). ScansOn (named g.N1.ServerNaming.name g.N2.ServerNaming.name g.N3.ServerNaming.name g.N4.ServerNaming.name) c.args.region c.args.from.now c.args.to.now (scan_answer c.scan.result) (known c.args.pass.now) (known (record { first = c.scan.new.pass; second = c.args.pass.now.second; third = c.args.pass.now.third; fourth = c.args.pass.now.fourth })) k) (sym (in_group c.args.self.now.count c.args.region c.group.result 1 c.group.ensures.is c.in-1.is)) c.scan.ensures.scans

pub scan_at-requires-clause-region : goal.scan_at-requires-clause-region
scan_at-requires-clause-region g c = subst (λ (k : ℕ). IsRegionOn (named g.N1.ServerNaming.name g.N2.ServerNaming.name g.N3.ServerNaming.name g.N4.ServerNaming.name) c.args.region k) (in_group c.args.self.now.count c.args.region c.group.result 2 c.group.ensures.is c.in-2.is) c.requires.region

pub returns-in-2-clause-scans : goal.returns-in-2-clause-scans
returns-in-2-clause-scans g c =
    subst (λ (k : ℕ). ScansOn (named g.N1.ServerNaming.name g.N2.ServerNaming.name g.N3.ServerNaming.name g.N4.ServerNaming.name) c.args.region c.args.from.now c.args.to.now (scan_answer c.scan_at.result) (known c.args.pass.now) (known (record { first = c.args.pass.now.first; second = c.scan_at.new.pass; third = c.args.pass.now.third; fourth = c.args.pass.now.fourth })) k) (sym (in_group c.args.self.now.count c.args.region c.group.result 2 c.group.ensures.is c.in-2.is)) c.scan_at.ensures.scans

pub scan_at-requires-in-3-clause-region : goal.scan_at-requires-in-3-clause-region
scan_at-requires-in-3-clause-region g c = subst (λ (k : ℕ). IsRegionOn (named g.N1.ServerNaming.name g.N2.ServerNaming.name g.N3.ServerNaming.name g.N4.ServerNaming.name) c.args.region k) (in_group c.args.self.now.count c.args.region c.group.result 3 c.group.ensures.is c.in-3.is) c.requires.region

pub returns-in-3-clause-scans : goal.returns-in-3-clause-scans
returns-in-3-clause-scans g c =
    subst (λ (k : ℕ). ScansOn (named g.N1.ServerNaming.name g.N2.ServerNaming.name g.N3.ServerNaming.name g.N4.ServerNaming.name) c.args.region c.args.from.now c.args.to.now (scan_answer c.scan_at-in-3.result) (known c.args.pass.now) (known (record { first = c.args.pass.now.first; second = c.args.pass.now.second; third = c.scan_at-in-3.new.pass; fourth = c.args.pass.now.fourth })) k) (sym (in_group c.args.self.now.count c.args.region c.group.result 3 c.group.ensures.is c.in-3.is)) c.scan_at-in-3.ensures.scans

pub scan_at-requires-in-4-clause-region : goal.scan_at-requires-in-4-clause-region
scan_at-requires-in-4-clause-region g c = subst (λ (k : ℕ). IsRegionOn (named g.N1.ServerNaming.name g.N2.ServerNaming.name g.N3.ServerNaming.name g.N4.ServerNaming.name) c.args.region k) (in_group c.args.self.now.count c.args.region c.group.result 4 c.group.ensures.is c.in-4.is) c.requires.region

pub returns-in-4-clause-scans : goal.returns-in-4-clause-scans
returns-in-4-clause-scans g c =
    subst (λ (k : ℕ). ScansOn (named g.N1.ServerNaming.name g.N2.ServerNaming.name g.N3.ServerNaming.name g.N4.ServerNaming.name) c.args.region c.args.from.now c.args.to.now (scan_answer c.scan_at-in-4.result) (known c.args.pass.now) (known (record { first = c.args.pass.now.first; second = c.args.pass.now.second; third = c.args.pass.now.third; fourth = c.scan_at-in-4.new.pass })) k) (sym (in_group c.args.self.now.count c.args.region c.group.result 4 c.group.ensures.is c.in-4.is)) c.scan_at-in-4.ensures.scans

pub returns-in-1-clause-of : goal.returns-in-1-clause-of
returns-in-1-clause-of g c =
    let of = c.requires.of in
    record {
      first = subst (λ (s : Servers). IsPassOf s.first c.scan.new.pass) c.self.view_is c.scan.ensures.of;
      second = of.second;
      third = of.third;
      fourth = of.fourth;
      second_same = first_keeps (knows c.args.pass.now.first).handler (knows c.scan.new.pass).handler c.args.pass.now.second c.scan.ensures.scans.later.handler of.second_same;
      third_same = first_keeps (knows c.args.pass.now.first).handler (knows c.scan.new.pass).handler c.args.pass.now.third c.scan.ensures.scans.later.handler of.third_same;
      fourth_same = first_keeps (knows c.args.pass.now.first).handler (knows c.scan.new.pass).handler c.args.pass.now.fourth c.scan.ensures.scans.later.handler of.fourth_same;
    }

pub returns-in-2-clause-of : goal.returns-in-2-clause-of
returns-in-2-clause-of g c =
    let of = c.requires.of in
    record {
      first = of.first;
      second = subst (λ (s : Servers). IsPassAt s.second c.scan_at.new.pass) c.self.view_is c.scan_at.ensures.of;
      third = of.third;
      fourth = of.fourth;
      second_same = other_keeps c.args.self.now.second (knows c.args.pass.now.first).handler c.args.pass.now.second c.scan_at.new.pass of.second (subst (λ (s : Servers). IsPassAt s.second c.scan_at.new.pass) c.self.view_is c.scan_at.ensures.of) c.scan_at.ensures.scans.later.handler of.second_same;
      third_same = of.third_same;
      fourth_same = of.fourth_same;
    }

pub returns-in-3-clause-of : goal.returns-in-3-clause-of
returns-in-3-clause-of g c =
    let of = c.requires.of in
    record {
      first = of.first;
      second = of.second;
      third = subst (λ (s : Servers). IsPassAt s.third c.scan_at-in-3.new.pass) c.self.view_is c.scan_at-in-3.ensures.of;
      fourth = of.fourth;
      second_same = of.second_same;
      third_same = other_keeps c.args.self.now.third (knows c.args.pass.now.first).handler c.args.pass.now.third c.scan_at-in-3.new.pass of.third (subst (λ (s : Servers). IsPassAt s.third c.scan_at-in-3.new.pass) c.self.view_is c.scan_at-in-3.ensures.of) c.scan_at-in-3.ensures.scans.later.handler of.third_same;
      fourth_same = of.fourth_same;
    }

pub returns-in-4-clause-of : goal.returns-in-4-clause-of
returns-in-4-clause-of g c =
    let of = c.requires.of in
    record {
      first = of.first;
      second = of.second;
      third = of.third;
      fourth = subst (λ (s : Servers). IsPassAt s.fourth c.scan_at-in-4.new.pass) c.self.view_is c.scan_at-in-4.ensures.of;
      second_same = of.second_same;
      third_same = of.third_same;
      fourth_same = other_keeps c.args.self.now.fourth (knows c.args.pass.now.first).handler c.args.pass.now.fourth c.scan_at-in-4.new.pass of.fourth (subst (λ (s : Servers). IsPassAt s.fourth c.scan_at-in-4.new.pass) c.self.view_is c.scan_at-in-4.ensures.of) c.scan_at-in-4.ensures.scans.later.handler of.fourth_same;
    }

pub returns-in-1-clause-elsewhere : goal.returns-in-1-clause-elsewhere
returns-in-1-clause-elsewhere g c = first_called (group_of c.args.self.now.count c.args.region) c.args.pass.now c.scan.new.pass (in_group c.args.self.now.count c.args.region c.group.result 1 c.group.ensures.is c.in-1.is)

pub returns-in-2-clause-elsewhere : goal.returns-in-2-clause-elsewhere
returns-in-2-clause-elsewhere g c = second_called (group_of c.args.self.now.count c.args.region) c.args.pass.now c.scan_at.new.pass (in_group c.args.self.now.count c.args.region c.group.result 2 c.group.ensures.is c.in-2.is)

pub returns-in-3-clause-elsewhere : goal.returns-in-3-clause-elsewhere
returns-in-3-clause-elsewhere g c = third_called (group_of c.args.self.now.count c.args.region) c.args.pass.now c.scan_at-in-3.new.pass (in_group c.args.self.now.count c.args.region c.group.result 3 c.group.ensures.is c.in-3.is)

pub returns-in-4-clause-elsewhere : goal.returns-in-4-clause-elsewhere
returns-in-4-clause-elsewhere g c = fourth_called (group_of c.args.self.now.count c.args.region) c.args.pass.now c.scan_at-in-4.new.pass (in_group c.args.self.now.count c.args.region c.group.result 4 c.group.ensures.is c.in-4.is)

pub scan_at-requires-clause-there : goal.scan_at-requires-clause-there
scan_at-requires-clause-there g c = second_here _ c.args.self.now c.self.view_is c.self.invariant c.group.result c.group.ensures.there.1 c.in-2.is

pub scan_at-requires-in-3-clause-there : goal.scan_at-requires-in-3-clause-there
scan_at-requires-in-3-clause-there g c = third_here _ c.args.self.now c.self.view_is c.self.invariant c.group.result c.group.ensures.there.1 c.in-3.is

pub scan_at-requires-in-4-clause-there : goal.scan_at-requires-in-4-clause-there
scan_at-requires-in-4-clause-there g c = fourth_here _ c.args.self.now c.self.view_is c.self.invariant c.group.result c.group.ensures.there.1 c.in-4.is
