-- A server may be shared by threads, and a handler's pass may go to another thread. The check's own search doesn't get through all of it at once,
-- so each step is shown by itself.
use Rattle.append_ring.specs.contracts.pass.RingKey as ring_pass
use Rattle.append_ring.specs.contracts.keys.RingKeys as idle
use Rattle.atomic_table.proofs.shared.Seat.TheSendSync as seat
use Rattle.atomic_table.specs.contracts.shared.Seat as table_seat
use Rattle.disk_images.specs.declared.disk.Disk.{Ghosts as DiskGhosts}
use Rattle.hand_register.proofs.desk.Desk.TheSendSync as desk
use Rattle.hand_register.proofs.hand.Hand.TheSendSync as hand
use Rattle.hand_register.specs.contracts.desk.Desk as desks
use Rattle.hand_register.specs.contracts.hand.Hand as hands
use Rattle.log_berth.proofs.seats.LogSeat.TheSendSync as berth_seat
use Rattle.region_calls.proofs.log_service_laws.Crossing.{item_send, service_sync}
use Rattle.region_calls.specs.log_service.log_halves.contracts.item.Item as item
use Rattle.region_calls.specs.log_service.contracts.seats.LogSeat as seats
use Rattle.region_calls.specs.log_service.contracts.service.LogService as service
use Rattle.region_calls.specs.log_service.log_halves.declared.name.ServiceNaming.{Ghosts as LogGhosts}
use Rattle.region_calls.specs.contracts.pass.Pass as pass
use Rattle.region_calls.specs.contracts.server.Server as server
use Rattle.region_calls.specs.declared.naming.ServerNaming.{Ghosts}
use Rattle.region_calls.specs.region_lock.contracts.locked.Locked as locked
use Rattle.region_calls.specs.region_lock.contracts.pass.RegionPass as region_pass
use Rattle.region_calls.specs.region_lock.declared.naming.LockNaming.{Ghosts as LockGhosts}
use Rattle.region_state.proofs.state.RegionState.TheSendSync as state
use Rattle.region_state.proofs.line.Line.TheSendSync as lines
use Rattle.region_state.specs.contracts.line.Line as line
use Rattle.region_state.specs.contracts.state.RegionState as states
use Rattle.region_versions.proofs.Crossing.{shower_send, viewer_send}
use Rattle.region_versions.proofs.history.History.TheSendSync as history
use Rattle.region_versions.specs.contracts.history.History as histories
use Rattle.region_versions.specs.declared.naming.VersionsNaming.{Ghosts as VersionGhosts}
use Rattle.std.proofs.Crossing.{crosses, Vec-send, Vec-sync}
use Rattle.std.specs.contracts.sync.Mutex as mutex
use denote.Param.Send.{IsSend, IsSync, sendable, shr_sync, view_send, view_sync, whole-keyless}
use denote.Param.SendFields.{as_row_send, as_row_sync, declared_send, declared_sync}
use denote.RattleType.{RattleType}
use denote.Ref.{NamedLft, ShrRef}
use denote.Struct.Field.{row_field}

state_send : IsSend states.the_row
state_send = search (state.the_send, sendable, crosses) depth 20

pass_send : IsSend (ring_pass.the_field item.the_row).row
pass_send = search (seat.the_send, item_send, sendable, crosses) fits 5000 depth 30

desk_send : IsSend (desks.the_row line.the_row)
desk_send = search (desk.the_send, lines.the_send, sendable, crosses) fits 5000 depth 30

hand_send : IsSend (hands.the_row line.the_row)
hand_send = search (hand.the_send, sendable, crosses) fits 5000 depth 30

module _ (N R : RattleType) (g : LockGhosts N.Denot) (l : LogGhosts N.Denot) (v : VersionGhosts N.Denot) where
  history_send : IsSend N → IsSend (histories.the_row N v)
  history_send n = search (history.the_send, sendable, crosses) fits 5000 depth 30

  pub locked_send : IsSend N → IsSend R → IsSend (locked.the_row N R g l v)
  locked_send n r =
      view_send _ _ _ _ _ (declared_send (locked.TheInside.the_type N R g l v) (
        as_row_send states.the_field state_send,
        (
          as_row_send (ring_pass.the_field item.the_row) pass_send,
          (
            search (as_row_send, desk.the_send, lines.the_send, sendable, crosses) fits 5000 depth 30,
            (
              search (as_row_send, desk.the_send, sendable, crosses) fits 5000 depth 30,
              (
                search (as_row_send, sendable, crosses) fits 5000 depth 30,
                (shower_send N R v n r, (as_row_send (histories.the_field N v) (history_send n), tt)),
              ),
            ),
          ),
        ),
      ))

module _ (N : RattleType) (g : LockGhosts N.Denot) (v : VersionGhosts N.Denot) where
  pub region_pass_send : IsSend N → IsSend (region_pass.the_row N g v)
  region_pass_send n =
      declared_send (region_pass.the_type N g v) (
        search (hand.the_send, sendable, crosses) fits 5000 depth 30,
        (
          search (hand.the_send, sendable, crosses) fits 5000 depth 30,
          (viewer_send N N v n, (search (as_row_send, sendable, crosses) fits 5000 depth 30, tt)),
        ),
      )

seat_sync : (S V : RattleType) → IsSend S → IsSync (table_seat.the_row S V)
seat_sync S V s = record { shared = λ d b o κ q. whole-keyless _ _ (seat.the_send S V s).owned q d b o }

pub pass_sync : IsSync (ring_pass.the_field item.the_row).row
pass_sync = search (seat_sync, item_send, sendable, crosses) fits 5000 depth 30

pub places_sync : IsSync (idle.the_field item.the_row).row
places_sync = search (pass_sync, sendable, crosses) fits 5000 depth 30

pub log_seat_send : IsSend seats.the_row
log_seat_send = search (berth_seat.the_send, sendable, crosses) fits 5000 depth 30

module _ (N : RattleType) (g : LockGhosts N.Denot) (v : VersionGhosts N.Denot) where
  pub handler_pass_send : IsSend N → IsSend (pass.the_row N g v)
  handler_pass_send n =
      declared_send (pass.the_type N g v) (
        search (as_row_send, sendable, crosses) fits 5000 depth 30,
        (
          search (as_row_send, sendable, crosses) fits 5000 depth 30,
          (search (log_seat_send, sendable, crosses) fits 5000 depth 30, (Vec-send _ (region_pass_send N g v n), tt)),
        ),
      )

module _ (a : NamedLft) (D N R : RattleType) (f : DiskGhosts D.Denot) (s : Ghosts N.Denot) (g : LockGhosts N.Denot) (l : LogGhosts N.Denot) (v : VersionGhosts N.Denot) where
  pub server_sync : IsSend D → IsSend N → IsSync R → IsSync (server.the_row a D N R f s g l v)
  server_sync d n r =
      let shared : IsSend (ShrRef a.mir a.lft R) = search (r, sendable) depth 10 in
      let inner : IsSend (locked.the_row N (ShrRef a.mir a.lft R) g l v) = locked_send N (ShrRef a.mir a.lft R) g l v n shared in
      let lock : IsSync (mutex.the_row (locked.the_row N (ShrRef a.mir a.lft R) g l v)) = search (inner, sendable, crosses) depth 20 in
      view_sync _ _ _ _ _ (declared_sync (server.TheInside.the_type a D N R f s g l v) (
        as_row_sync (service.the_field D N f l) (service_sync D N f l d),
        (Vec-sync (mutex.the_row (locked.the_row N (ShrRef a.mir a.lft R) g l v)) lock, (as_row_sync (idle.the_field item.the_row) places_sync, (as_row_sync (row_field (ShrRef a.mir a.lft R)) (shr_sync a.mir a.lft R r), tt))),
      ))
