use Rattle.std.proofs.Common.{Some, sym, arith}
use Rattle.group_calls.specs.region_calls.Store.{disk_now}
use Rattle.groups_run.proofs.Starts.{gone_at, held_at, let_go_from, map_some_there}
use Rattle.groups_run.proofs.others.start_others.Goals as goal

pub start_at-requires : goal.start_at-requires
start_at-requires g c = c.requires.named_2

pub start_at-requires-2 : goal.start_at-requires-2
start_at-requires-2 g c = c.requires.named_3

pub start_at-requires-3 : goal.start_at-requires-3
start_at-requires-3 g c = c.requires.named_4

pub let_go_at-second-requires : goal.let_go_at-second-requires
let_go_at-second-requires g c = c.in-Ok.ensures.new

pub let_go_at-second-requires-in-Err-start_at-2 : goal.let_go_at-second-requires-in-Err-start_at-2
let_go_at-second-requires-in-Err-start_at-2 g c = c.in-Ok.ensures.new

pub let_go_at-third-requires : goal.let_go_at-third-requires
let_go_at-third-requires g c = c.in-Ok-start_at.ensures.new

pub returns-in-Err-clause-refused : goal.returns-in-Err-clause-refused
returns-in-Err-clause-refused g c =
    rw c.refused.ensures (
      omega arith,
      λ first. map_some_there disk_now c.args.second c.in-Err.disk c.in-Err.ensures.refused,
      held_at g.D.Disk g.N2.ServerNaming g.N2.LockNaming g.N2.ServiceNaming g.N2.VersionsNaming 2 2 c.args.second (Some c.in-Err.disk) (omega arith) (sym c.in-Err.ensures.refused),
      held_at g.D.Disk g.N3.ServerNaming g.N3.LockNaming g.N3.ServiceNaming g.N3.VersionsNaming 3 2 c.args.third c.disk_at-third.result (omega arith) c.disk_at-third.ensures,
      held_at g.D.Disk g.N4.ServerNaming g.N4.LockNaming g.N4.ServiceNaming g.N4.VersionsNaming 4 2 c.args.fourth c.disk_at-fourth.result (omega arith) c.disk_at-fourth.ensures,
    )

pub returns-in-Err-start_at-clause-refused : goal.returns-in-Err-start_at-clause-refused
returns-in-Err-start_at-clause-refused g c =
    rw c.refused-in-Err-start_at.ensures (
      omega arith,
      λ first. map_some_there disk_now c.args.third c.in-Err-start_at.disk c.in-Err-start_at.ensures.refused,
      gone_at g.D.Disk g.N2.ServerNaming g.N2.LockNaming g.N2.ServiceNaming g.N2.VersionsNaming 2 3 c.args.second c.let_go_at-second.result (omega arith) (let_go_from g.D.Disk g.N2.ServerNaming g.N2.LockNaming g.N2.ServiceNaming g.N2.VersionsNaming _ c.args.second c.in-Ok.started c.let_go_at-second.result c.in-Ok.ensures.sites c.let_go_at-second.ensures),
      held_at g.D.Disk g.N3.ServerNaming g.N3.LockNaming g.N3.ServiceNaming g.N3.VersionsNaming 3 3 c.args.third (Some c.in-Err-start_at.disk) (omega arith) (sym c.in-Err-start_at.ensures.refused),
      held_at g.D.Disk g.N4.ServerNaming g.N4.LockNaming g.N4.ServiceNaming g.N4.VersionsNaming 4 3 c.args.fourth c.disk_at-fourth-in-Err-start_at.result (omega arith) c.disk_at-fourth-in-Err-start_at.ensures,
    )

pub returns-in-Err-start_at-2-clause-refused : goal.returns-in-Err-start_at-2-clause-refused
returns-in-Err-start_at-2-clause-refused g c =
    rw c.refused-in-Err-start_at-2.ensures (
      omega arith,
      λ first. map_some_there disk_now c.args.fourth c.in-Err-start_at-2.disk c.in-Err-start_at-2.ensures.refused,
      gone_at g.D.Disk g.N2.ServerNaming g.N2.LockNaming g.N2.ServiceNaming g.N2.VersionsNaming 2 4 c.args.second c.let_go_at-second-in-Err-start_at-2.result (omega arith) (let_go_from g.D.Disk g.N2.ServerNaming g.N2.LockNaming g.N2.ServiceNaming g.N2.VersionsNaming _ c.args.second c.in-Ok.started c.let_go_at-second-in-Err-start_at-2.result c.in-Ok.ensures.sites c.let_go_at-second-in-Err-start_at-2.ensures),
      gone_at g.D.Disk g.N3.ServerNaming g.N3.LockNaming g.N3.ServiceNaming g.N3.VersionsNaming 3 4 c.args.third c.let_go_at-third.result (omega arith) (let_go_from g.D.Disk g.N3.ServerNaming g.N3.LockNaming g.N3.ServiceNaming g.N3.VersionsNaming _ c.args.third c.in-Ok-start_at.started c.let_go_at-third.result c.in-Ok-start_at.ensures.sites c.let_go_at-third.ensures),
      held_at g.D.Disk g.N4.ServerNaming g.N4.LockNaming g.N4.ServiceNaming g.N4.VersionsNaming 4 4 c.args.fourth (Some c.in-Err-start_at-2.disk) (omega arith) (sym c.in-Err-start_at-2.ensures.refused),
    )

pub returns-in-Ok-start_at-2-clause-started : goal.returns-in-Ok-start_at-2-clause-started
returns-in-Ok-start_at-2-clause-started g c = (c.in-Ok.ensures.new, c.in-Ok-start_at.ensures.new, c.in-Ok-start_at-2.ensures.new, c.in-Ok.ensures.sites, c.in-Ok-start_at.ensures.sites, c.in-Ok-start_at-2.ensures.sites)
