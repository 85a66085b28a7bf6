use Rattle.std.proofs.Common.{refl, sym, subst, ◌∙◌, arith}
use Rattle.group_calls.proofs.group_servers_laws.group_lists_laws.Each.{counts_same}
use Rattle.group_calls.specs.group_servers.group_lists.Lists.{AtBoth}
use Rattle.group_calls.specs.group_servers.Starting.{HasRegionsOf}
use Rattle.group_calls.specs.region_calls.Deals.{passes_out}
use Rattle.groups_run.proofs.Starts.{both_mapped, counted_as, even, even_new, first_there, gone, held, held_at, none_new, passes_new, seats_new, two_new}
use Rattle.groups_run.proofs.starting.start_groups.Goals as goal

pub named-requires-clause-name : goal.named-requires-clause-name
named-requires-clause-name g c = c.requires.named_1.name

pub named-requires-clause-store : goal.named-requires-clause-store
named-requires-clause-store g c = c.requires.named_1.store

pub let_go-first-requires : goal.let_go-first-requires
let_go-first-requires g c = record { none = (c.in-Ok.ensures.passes.0, c.in-Ok.ensures.passes.1); passes = c.in-Ok.ensures.passes.2; seats_are = c.in-Ok.ensures.helpers }

pub returns-in-Err-clause-refused : goal.returns-in-Err-clause-refused
returns-in-Err-clause-refused g c = rw c.no_memory.ensures (refl, first_there c.args.opened)

pub returns-in-Err-clause-first : goal.returns-in-Err-clause-first
returns-in-Err-clause-first g c =
    rw (c.no_memory.ensures, c.of-left.ensures) (held g.D.Disk g.N1.ServerNaming g.N1.LockNaming g.N1.ServiceNaming g.N1.VersionsNaming 1 1 c.args.opened.first c.in-Err.field-0.disk (omega arith) c.in-Err.ensures.refused.1)

pub returns-in-Err-clause-second : goal.returns-in-Err-clause-second
returns-in-Err-clause-second g c =
    rw (c.no_memory.ensures, c.of-left.ensures) (held_at g.D.Disk g.N2.ServerNaming g.N2.LockNaming g.N2.ServiceNaming g.N2.VersionsNaming 2 1 c.args.opened.second c.disk_at-second.result (omega arith) c.disk_at-second.ensures)

pub returns-in-Err-clause-third : goal.returns-in-Err-clause-third
returns-in-Err-clause-third g c =
    rw (c.no_memory.ensures, c.of-left.ensures) (held_at g.D.Disk g.N3.ServerNaming g.N3.LockNaming g.N3.ServiceNaming g.N3.VersionsNaming 3 1 c.args.opened.third c.disk_at-third.result (omega arith) c.disk_at-third.ensures)

pub returns-in-Err-clause-fourth : goal.returns-in-Err-clause-fourth
returns-in-Err-clause-fourth g c =
    rw (c.no_memory.ensures, c.of-left.ensures) (held_at g.D.Disk g.N4.ServerNaming g.N4.LockNaming g.N4.ServiceNaming g.N4.VersionsNaming 4 1 c.args.opened.fourth c.disk_at-fourth.result (omega arith) c.disk_at-fourth.ensures)

pub returns-in-Err-start_others-clause-refused : goal.returns-in-Err-start_others-clause-refused
returns-in-Err-start_others-clause-refused g c = rw c.no_memory-in-Err-start_others.ensures (refl, c.in-Err-start_others.ensures.refused.1 c.args.opened.first)

pub returns-in-Err-start_others-clause-first : goal.returns-in-Err-start_others-clause-first
returns-in-Err-start_others-clause-first g c =
    rw (c.no_memory-in-Err-start_others.ensures, c.of-left-in-Err-start_others.ensures)
    (gone g.D.Disk g.N1.ServerNaming g.N1.LockNaming g.N1.ServiceNaming g.N1.VersionsNaming 1 c.in-Err-start_others.field-0.disk c.args.opened.first c.let_go-first.result c.in-Err-start_others.ensures.refused.0 c.let_go-first.ensures)

pub returns-in-Err-start_others-clause-second : goal.returns-in-Err-start_others-clause-second
returns-in-Err-start_others-clause-second g c = rw (c.no_memory-in-Err-start_others.ensures, c.of-left-in-Err-start_others.ensures) c.in-Err-start_others.ensures.refused.2

pub returns-in-Err-start_others-clause-third : goal.returns-in-Err-start_others-clause-third
returns-in-Err-start_others-clause-third g c = rw (c.no_memory-in-Err-start_others.ensures, c.of-left-in-Err-start_others.ensures) c.in-Err-start_others.ensures.refused.3

pub returns-in-Err-start_others-clause-fourth : goal.returns-in-Err-start_others-clause-fourth
returns-in-Err-start_others-clause-fourth g c = rw (c.no_memory-in-Err-start_others.ensures, c.of-left-in-Err-start_others.ensures) c.in-Err-start_others.ensures.refused.4

pub of-groups-requires : goal.of-groups-requires
of-groups-requires g c =
    let o = c.in-Ok-start_others.others in
    let e = c.in-Ok-start_others.ensures in
    let sites_2 = both_mapped _ HasRegionsOf (λ s. s.server) (λ o s is. is) c.args.opened.second o.second e.started.3 in
    let sites_3 = both_mapped _ HasRegionsOf (λ s. s.server) (λ o s is. is) c.args.opened.third o.third e.started.4 in
    let sites_4 = both_mapped _ HasRegionsOf (λ s. s.server) (λ o s is. is) c.args.opened.fourth o.fourth e.started.5 in
    let count = c.count-count.ensures.is ∙ sym (counts_same HasRegionsOf c.args.opened.second c.args.opened.third c.args.opened.fourth _ _ _ sites_2 sites_3 sites_4) in
    record { count = counted_as _ _ _ _ _ _ _ c.parts_of-server_2.ensures.server c.parts_of-server_3.ensures.server c.parts_of-server_4.ensures.server count }

pub returns-in-Ok-start_others-clause-servers : goal.returns-in-Ok-start_others-clause-servers
returns-in-Ok-start_others-clause-servers g c =
    let o = c.in-Ok-start_others.others in
    let e = c.in-Ok-start_others.ensures in
    rw c.of-groups.ensures (record {
      count = c.count-count.ensures.is;
      first = c.in-Ok.ensures.server.0;
      second = subst (λ x. AtBoth HasRegionsOf c.args.opened.second x) (sym c.parts_of-server_2.ensures.server) (both_mapped _ HasRegionsOf (λ s. s.server) (λ o s is. is) c.args.opened.second o.second e.started.3);
      third = subst (λ x. AtBoth HasRegionsOf c.args.opened.third x) (sym c.parts_of-server_3.ensures.server) (both_mapped _ HasRegionsOf (λ s. s.server) (λ o s is. is) c.args.opened.third o.third e.started.4);
      fourth = subst (λ x. AtBoth HasRegionsOf c.args.opened.fourth x) (sym c.parts_of-server_4.ensures.server) (both_mapped _ HasRegionsOf (λ s. s.server) (λ o s is. is) c.args.opened.fourth o.fourth e.started.5);
    })

pub returns-in-Ok-start_others-clause-passes : goal.returns-in-Ok-start_others-clause-passes
returns-in-Ok-start_others-clause-passes g c =
    let o = c.in-Ok-start_others.others in
    let e = c.in-Ok-start_others.ensures in
    let even_2 = even g.D.Disk g.N2.ServerNaming g.N2.LockNaming g.N2.ServiceNaming g.N2.VersionsNaming _ c.args.opened.first g.N1.LockNaming.handlers c.args.opened.second o.second e.started.3 c.requires.named_2 c.requires.alike.second c.requires.named_1.name.handlers_are in
    let even_3 = even g.D.Disk g.N3.ServerNaming g.N3.LockNaming g.N3.ServiceNaming g.N3.VersionsNaming _ c.args.opened.first g.N1.LockNaming.handlers c.args.opened.third o.third e.started.4 c.requires.named_3 c.requires.alike.third c.requires.named_1.name.handlers_are in
    let even_4 = even g.D.Disk g.N4.ServerNaming g.N4.LockNaming g.N4.ServiceNaming g.N4.VersionsNaming _ c.args.opened.first g.N1.LockNaming.handlers c.args.opened.fourth o.fourth e.started.5 c.requires.named_4 c.requires.alike.fourth c.requires.named_1.name.handlers_are in
    rw c.of-groups.ensures (
      record {
        first = c.in-Ok.ensures.passes.2;
        second = passes_new g.N2.LockNaming.handlers c.parts_of-server_2.result.0 c.parts_of-server_2.result.1 c.parts_of-server_2.result.2 (c.parts_of-server_2.ensures.new e.started.0);
        third = passes_new g.N3.LockNaming.handlers c.parts_of-server_3.result.0 c.parts_of-server_3.result.1 c.parts_of-server_3.result.2 (c.parts_of-server_3.ensures.new e.started.1);
        fourth = passes_new g.N4.LockNaming.handlers c.parts_of-server_4.result.0 c.parts_of-server_4.result.1 c.parts_of-server_4.result.2 (c.parts_of-server_4.ensures.new e.started.2);
        second_even = even_new (λ s. s.server) g.N1.LockNaming.handlers g.N2.LockNaming.handlers (passes_out c.in-Ok.started.passes) o.second c.parts_of-server_2.result.0 c.parts_of-server_2.result.1 c.parts_of-server_2.result.2 even_2 c.parts_of-server_2.ensures.server (c.parts_of-server_2.ensures.new e.started.0) c.in-Ok.ensures.passes.0;
        third_even = even_new (λ s. s.server) g.N1.LockNaming.handlers g.N3.LockNaming.handlers (passes_out c.in-Ok.started.passes) o.third c.parts_of-server_3.result.0 c.parts_of-server_3.result.1 c.parts_of-server_3.result.2 even_3 c.parts_of-server_3.ensures.server (c.parts_of-server_3.ensures.new e.started.1) c.in-Ok.ensures.passes.0;
        fourth_even = even_new (λ s. s.server) g.N1.LockNaming.handlers g.N4.LockNaming.handlers (passes_out c.in-Ok.started.passes) o.fourth c.parts_of-server_4.result.0 c.parts_of-server_4.result.1 c.parts_of-server_4.result.2 even_4 c.parts_of-server_4.ensures.server (c.parts_of-server_4.ensures.new e.started.2) c.in-Ok.ensures.passes.0;
      },
      record {
        first = (c.in-Ok.ensures.passes.0, c.in-Ok.ensures.passes.1);
        second = none_new g.N2.LockNaming.handlers c.parts_of-server_2.result.0 c.parts_of-server_2.result.1 c.parts_of-server_2.result.2 (c.parts_of-server_2.ensures.new e.started.0);
        third = none_new g.N3.LockNaming.handlers c.parts_of-server_3.result.0 c.parts_of-server_3.result.1 c.parts_of-server_3.result.2 (c.parts_of-server_3.ensures.new e.started.1);
        fourth = none_new g.N4.LockNaming.handlers c.parts_of-server_4.result.0 c.parts_of-server_4.result.1 c.parts_of-server_4.result.2 (c.parts_of-server_4.ensures.new e.started.2);
      },
    )

pub returns-in-Ok-start_others-clause-helpers : goal.returns-in-Ok-start_others-clause-helpers
returns-in-Ok-start_others-clause-helpers g c =
    let e = c.in-Ok-start_others.ensures in
    rw c.of-groups.ensures (
      record {
        first = c.in-Ok.ensures.helpers.1;
        second = seats_new g.N2.LockNaming.handlers c.parts_of-server_2.result.0 c.parts_of-server_2.result.1 c.parts_of-server_2.result.2 (c.parts_of-server_2.ensures.new e.started.0);
        third = seats_new g.N3.LockNaming.handlers c.parts_of-server_3.result.0 c.parts_of-server_3.result.1 c.parts_of-server_3.result.2 (c.parts_of-server_3.ensures.new e.started.1);
        fourth = seats_new g.N4.LockNaming.handlers c.parts_of-server_4.result.0 c.parts_of-server_4.result.1 c.parts_of-server_4.result.2 (c.parts_of-server_4.ensures.new e.started.2);
      },
      record {
        first = c.in-Ok.ensures.helpers.0;
        second = two_new g.N2.LockNaming.handlers c.parts_of-server_2.result.0 c.parts_of-server_2.result.1 c.parts_of-server_2.result.2 (c.parts_of-server_2.ensures.new e.started.0);
        third = two_new g.N3.LockNaming.handlers c.parts_of-server_3.result.0 c.parts_of-server_3.result.1 c.parts_of-server_3.result.2 (c.parts_of-server_3.ensures.new e.started.1);
        fourth = two_new g.N4.LockNaming.handlers c.parts_of-server_4.result.0 c.parts_of-server_4.result.1 c.parts_of-server_4.result.2 (c.parts_of-server_4.ensures.new e.started.2);
      },
    )
