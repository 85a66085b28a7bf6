-- Several servers may be shared by threads, and a handler's passes and a helper's seat may go to another thread.
use Rattle.disk_images.specs.declared.disk.Disk.{Ghosts as DiskGhosts}
use Rattle.group_calls.proofs.groups.GroupHelper.TheSendSync as helper
use Rattle.group_calls.specs.contracts.groups.GroupPass as group_pass
use Rattle.group_calls.specs.contracts.groups.Groups as groups
use Rattle.group_calls.specs.contracts.groups.GroupHelper as helpers
use Rattle.group_servers.specs.log_service.log_halves.declared.name.ServiceNaming.{Ghosts as LogGhosts}
use Rattle.group_servers.specs.region_calls.contracts.pass.Pass as pass
use Rattle.group_servers.specs.region_calls.contracts.server.Server as server
use Rattle.group_servers.specs.region_calls.declared.naming.ServerNaming.{Ghosts}
use Rattle.group_servers.specs.region_lock.declared.naming.LockNaming.{Ghosts as LockGhosts}
use Rattle.region_versions.specs.declared.naming.VersionsNaming.{Ghosts as VersionGhosts}
use Rattle.group_servers.proofs.handler_threads_laws.Crossing.{handler_pass_send, log_seat_send, server_sync}
use Rattle.std.proofs.Crossing.{crosses}
use Rattle.std.proofs.option.Option.TheSendSync as crossing
use Rattle.std.specs.contracts.option.Option as option
use denote.Param.Send.{IsSend, IsSync, sendable, shr_sync, view_sync}
use denote.Param.SendFields.{as_row_sync, declared_send, declared_sync}
use denote.RattleType.{RattleType}
use denote.Ref.{NamedLft, ShrRef}
use denote.Struct.Field.{row_field}

pub option_sync : (T : RattleType) → IsSync T → IsSync (option.the_row T)
option_sync T t = search (crossing.the_sync, t, sendable, crosses) depth 20

pub option_send : (T : RattleType) → IsSend T → IsSend (option.the_row T)
option_send T t = search (crossing.the_send, t, sendable, crosses) depth 20

pub group_helper_send : IsSend helpers.the_row
group_helper_send = search (helper.the_send, log_seat_send, sendable, crosses) fits 5000 depth 30

module _ (N1 N2 N3 N4 : RattleType) (g1 : LockGhosts N1.Denot) (v1 : VersionGhosts N1.Denot) (g2 : LockGhosts N2.Denot) (v2 : VersionGhosts N2.Denot) (g3 : LockGhosts N3.Denot) (v3 : VersionGhosts N3.Denot) (g4 : LockGhosts N4.Denot) (v4 : VersionGhosts N4.Denot) where
  pub group_pass_send : IsSend N1 → IsSend N2 → IsSend N3 → IsSend N4 → IsSend (group_pass.the_row N1 N2 N3 N4 g1 g2 g3 g4 v1 v2 v3 v4)
  group_pass_send n1 n2 n3 n4 =
      let p2 : IsSend (option.the_row (pass.the_row N2 g2 v2)) = option_send (pass.the_row N2 g2 v2) (handler_pass_send N2 g2 v2 n2) in
      let p3 : IsSend (option.the_row (pass.the_row N3 g3 v3)) = option_send (pass.the_row N3 g3 v3) (handler_pass_send N3 g3 v3 n3) in
      let p4 : IsSend (option.the_row (pass.the_row N4 g4 v4)) = option_send (pass.the_row N4 g4 v4) (handler_pass_send N4 g4 v4 n4) in
      declared_send (group_pass.the_type N1 N2 N3 N4 g1 g2 g3 g4 v1 v2 v3 v4) (
        handler_pass_send N1 g1 v1 n1,
        (search (p2, sendable) depth 20, (search (p3, sendable) depth 20, (search (p4, sendable) depth 20, tt))),
      )

module _ (a : NamedLft) (D N1 N2 N3 N4 R : RattleType) (f : DiskGhosts D.Denot) (s1 : Ghosts N1.Denot) (g1 : LockGhosts N1.Denot) (l1 : LogGhosts N1.Denot) (v1 : VersionGhosts N1.Denot) (s2 : Ghosts N2.Denot) (g2 : LockGhosts N2.Denot) (l2 : LogGhosts N2.Denot) (v2 : VersionGhosts N2.Denot) (s3 : Ghosts N3.Denot) (g3 : LockGhosts N3.Denot) (l3 : LogGhosts N3.Denot) (v3 : VersionGhosts N3.Denot) (s4 : Ghosts N4.Denot) (g4 : LockGhosts N4.Denot) (l4 : LogGhosts N4.Denot) (v4 : VersionGhosts N4.Denot) where
  pub groups_sync : IsSend D → IsSend N1 → IsSend N2 → IsSend N3 → IsSend N4 → IsSync R → IsSync (groups.the_row a D N1 N2 N3 N4 R f s1 g1 l1 v1 s2 g2 l2 v2 s3 g3 l3 v3 s4 g4 l4 v4)
  groups_sync d n1 n2 n3 n4 r =
      let q2 : IsSync (option.the_row (server.the_row a D N2 R f s2 g2 l2 v2)) = option_sync (server.the_row a D N2 R f s2 g2 l2 v2) (server_sync a D N2 R f s2 g2 l2 v2 d n2 r) in
      let q3 : IsSync (option.the_row (server.the_row a D N3 R f s3 g3 l3 v3)) = option_sync (server.the_row a D N3 R f s3 g3 l3 v3) (server_sync a D N3 R f s3 g3 l3 v3 d n3 r) in
      let q4 : IsSync (option.the_row (server.the_row a D N4 R f s4 g4 l4 v4)) = option_sync (server.the_row a D N4 R f s4 g4 l4 v4) (server_sync a D N4 R f s4 g4 l4 v4 d n4 r) in
      view_sync _ _ _ _ _ (declared_sync (groups.TheInside.the_type a D N1 N2 N3 N4 R f s1 g1 l1 v1 s2 g2 l2 v2 s3 g3 l3 v3 s4 g4 l4 v4) (
        as_row_sync (server.the_field a D N1 R f s1 g1 l1 v1) (server_sync a D N1 R f s1 g1 l1 v1 d n1 r),
        (
          search (q2, sendable) depth 20,
          (search (q3, sendable) depth 20, (search (q4, sendable) depth 20, (search (as_row_sync, sendable, crosses) fits 5000 depth 30, (as_row_sync (row_field (ShrRef a.mir a.lft R)) (shr_sync a.mir a.lft R r), tt)))),
        ),
      ))
