use Rattle.std.proofs.Common.{refl, subst, sym}
use Rattle.group_calls.specs.group_servers.group_lists.declared.lists.GroupList.{GroupList}
use Rattle.group_calls.specs.group_servers.declared.shutting.ServerEnd.{ServerEnd}
use Rattle.group_calls.specs.group_servers.Dealing.{AreBackAt}
use Rattle.group_calls.specs.region_calls.Backs.{AllBack}
use Rattle.group_calls.specs.region_calls.Deals.{passes_back}
use Rattle.group_calls.specs.Servers.{Servers}
use Rattle.groups_run.specs.Closing.{IsJoined, regions_in}
use Rattle.groups_run.proofs.Ending.{as_first, as_many, ended_at, ended_so, two_back}
use Rattle.groups_run.proofs.closing.close_groups.Goals as goal

pub close_one-first-requires : goal.close_one-first-requires
close_one-first-requires g c =
    subst (λ (s : Servers). AllBack s.first g.N1.LockNaming.handlers c.args.passes.first c.args.helpers.first) c.into_parts-count.ensures.is c.requires.back.first

pub close_here-second-requires-clause-back : goal.close_here-second-requires-clause-back
close_here-second-requires-clause-back g c =
    subst (λ (s : Servers). AreBackAt s.second g.N2.LockNaming.handlers c.args.passes.second c.args.helpers.second) c.into_parts-count.ensures.is c.requires.back.second

pub close_here-second-requires-clause-seats : goal.close_here-second-requires-clause-seats
close_here-second-requires-clause-seats g c = two_back c.args.groups.second g.N2.LockNaming.handlers c.args.passes.second c.args.helpers.second c.requires.back.second

pub close_here-third-requires-clause-back : goal.close_here-third-requires-clause-back
close_here-third-requires-clause-back g c =
    subst (λ (s : Servers). AreBackAt s.third g.N3.LockNaming.handlers c.args.passes.third c.args.helpers.third) c.into_parts-count.ensures.is c.requires.back.third

pub close_here-third-requires-clause-seats : goal.close_here-third-requires-clause-seats
close_here-third-requires-clause-seats g c = two_back c.args.groups.third g.N3.LockNaming.handlers c.args.passes.third c.args.helpers.third c.requires.back.third

pub close_here-fourth-requires-clause-back : goal.close_here-fourth-requires-clause-back
close_here-fourth-requires-clause-back g c =
    subst (λ (s : Servers). AreBackAt s.fourth g.N4.LockNaming.handlers c.args.passes.fourth c.args.helpers.fourth) c.into_parts-count.ensures.is c.requires.back.fourth

pub close_here-fourth-requires-clause-seats : goal.close_here-fourth-requires-clause-seats
close_here-fourth-requires-clause-seats g c = two_back c.args.groups.fourth g.N4.LockNaming.handlers c.args.passes.fourth c.args.helpers.fourth c.requires.back.fourth

pub join-requires-clause-groups : goal.join-requires-clause-groups
join-requires-clause-groups g c = c.into_parts-count.ensures.some.0

pub join-requires-clause-count : goal.join-requires-clause-count
join-requires-clause-count g c =
    let n = g.N1.ServerNaming.name.regions in
    let back = c.requires.back in
    let same = c.requires.regions in
    let first = c.close_one-first.result in
    let ends : GroupList (ServerEnd g.row.D.Denot) = record { first = first; second = c.close_here-second.result; third = c.close_here-third.result; fourth = c.close_here-fourth.result } in
    let firsts = ended_so g.D.Disk g.N1.ServerNaming g.N1.LockNaming g.N1.ServiceNaming g.N1.VersionsNaming n (passes_back c.args.passes.first) first.disk first.broken first.regions refl c.close_one-first.ensures in
    as_first n first.regions (regions_in ends) firsts
    (as_many n ends firsts
    (ended_at g.D.Disk g.N2.ServerNaming g.N2.LockNaming g.N2.ServiceNaming g.N2.VersionsNaming n g.N2.LockNaming.handlers _ _ _ _ back.second same.second_same c.close_here-second.ensures)
    (ended_at g.D.Disk g.N3.ServerNaming g.N3.LockNaming g.N3.ServiceNaming g.N3.VersionsNaming n g.N3.LockNaming.handlers _ _ _ _ back.third same.third_same c.close_here-third.ensures)
    (ended_at g.D.Disk g.N4.ServerNaming g.N4.LockNaming g.N4.ServiceNaming g.N4.VersionsNaming n g.N4.LockNaming.handlers _ _ _ _ back.fourth same.fourth_same c.close_here-fourth.ensures))

pub returns : goal.returns
returns g c =
    let ends : GroupList (ServerEnd g.row.D.Denot) = record { first = c.close_one-first.result; second = c.close_here-second.result; third = c.close_here-third.result; fourth = c.close_here-fourth.result } in (
      ends,
      subst (λ (s : Servers). IsJoined s.count ends c.join.result) (sym c.into_parts-count.ensures.is) c.join.ensures,
      c.close_one-first.ensures,
      c.close_here-second.ensures,
      c.close_here-third.ensures,
      c.close_here-fourth.ensures,
    )
