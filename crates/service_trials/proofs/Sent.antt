-- A watched disk, and a seat of a service, may go to another thread.
use denote.Param.Send.{IsSend, sendable}
use denote.Param.SendFields.{as_row_send, declared_send}
use denote.Struct.Field.{row_field}
use Rattle.std.proofs.Crossing.{crosses, Vec-send}
use Rattle.std.proofs.MapsCrossing as maps
use Rattle.disk_fakes.specs.contracts.fail.CallPlan as plans
use Rattle.disk_fakes.specs.contracts.history.History as histories
use Rattle.disk_fakes.specs.contracts.mem_disk.MemDisk as mem
use Rattle.disk_fakes.specs.contracts.op.Op as ops
use Rattle.disk_fakes.specs.contracts.table.FileTable as tables
use Rattle.disk_fakes.specs.contracts.watch_disk.WatchDisk as watch
use Rattle.log_berth.proofs.seats.LogSeat.TheSendSync as berth_seat
use Rattle.log_service.specs.contracts.seats.LogSeat as seats
use Rattle.log_service.proofs.Crossing.{item_send}
use Rattle.log_service.specs.log_halves.contracts.item.Item as items
use Rattle.append_ring.specs.contracts.pass.RingKey as passes
use Rattle.atomic_table.proofs.shared.Seat.TheSendSync as table_seat
use Rattle.service_trials.specs.contracts.member.Member as members

pub log_seat_send : IsSend seats.the_row
log_seat_send = search (berth_seat.the_send, sendable, crosses) fits 5000 depth 30

-- as a field of a struct
pass_send : IsSend (passes.the_field items.the_row).row
pass_send = search (table_seat.the_send, item_send, sendable, crosses) fits 5000 depth 30

pub member_send : IsSend members.the_row
member_send =
    declared_send members.the_type (
      as_row_send (passes.the_field items.the_row) pass_send,
      (
        search (log_seat_send, sendable, crosses) fits 5000 depth 30,
        (search (as_row_send, sendable, crosses) fits 5000 depth 30, (search (as_row_send, sendable, crosses) fits 5000 depth 30, (search (as_row_send, sendable, crosses) fits 5000 depth 30, (search (as_row_send, sendable, crosses) fits 5000 depth 30, tt)))),
      ),
    )

op_send : IsSend ops.the_row
op_send = search (sendable, crosses) fits 5000 depth 30

table_send : IsSend tables.the_row
table_send = search (maps.BTreeMap-send, sendable, crosses) fits 5000 depth 30

history_send : IsSend histories.the_row
history_send =
    declared_send histories.the_type (search (as_row_send, sendable, crosses) fits 5000 depth 30, (table_send, (table_send, (Vec-send ops.the_row op_send, tt))))

plan_send : IsSend plans.the_row
plan_send = search (sendable, crosses) fits 5000 depth 30

mem_send : IsSend mem.the_row
mem_send = declared_send mem.the_type (history_send, (plan_send, tt))

pub disk_send : IsSend (watch.the_row mem.the_row)
disk_send =
    declared_send (watch.the_type mem.the_row) (
      as_row_send (row_field mem.the_row) mem_send,
      (search (as_row_send, sendable, crosses) fits 5000 depth 30, (search (as_row_send, sendable, crosses) fits 5000 depth 30, tt)),
    )
