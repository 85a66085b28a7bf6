-- A service may be shared by threads, and its seats may go to other threads. The check's own search doesn't get through all of it at once, so
-- each step is shown by itself.
use denote.RattleType.{RattleType}
use denote.Param.Send.{IsSend, IsSync, sendable, recorded_sync, struct_sync}
use denote.Struct.Struct.{Struct}
use denote.Struct.Declared.{shape}
use Rattle.std.proofs.Crossing.{crosses}
use Rattle.log_halves.specs.declared.name.ServiceNaming.{Ghosts}
use Rattle.disk_images.specs.declared.disk.Disk.{Ghosts as DiskGhosts}
use Rattle.log_halves.specs.contracts.consumer.ConsumerHalf as mover
use Rattle.log_halves.specs.contracts.committer.DeviceHalf as committer
use Rattle.log_halves.specs.contracts.item.Item as item
use Rattle.log_service.specs.contracts.service.LogService as service
use Rattle.log_service.specs.contracts.service.LogService.TheInside as inside
use Rattle.append_ring.proofs.ring.Ring.TheSendSync as ring
use Rattle.log_berth.proofs.berth.Berth.TheSendSync as berth
use Rattle.log_halves.proofs.Crossing as halves

pub item_send : IsSend item.the_row
item_send = halves.item_send

module _ (D N : RattleType) (f : DiskGhosts D.Denot) (g : Ghosts N.Denot) where
  inside_sync : IsSend D → IsSync (inside.the_row D N f g)
  inside_sync d =
      let first : IsSend (mover.the_row N g) = halves.mover_send N g in
      let second : IsSend (committer.the_row D N f g) = halves.committer_send D N f g d in
      let T = inside.the_type D N f g in
      recorded_sync (Struct (shape T)) T.D T.to T.to_one
      (struct_sync (shape T) (
        search (ring.the_sync, item_send, sendable, crosses) depth 20,
        (
          search (ring.the_sync, halves.frame_chain_send, sendable, crosses) depth 20,
          (search (berth.the_sync, first, sendable, crosses) depth 20, (search (berth.the_sync, second, sendable, crosses) depth 20, (search sendable, (search (sendable, crosses) fits 5000 depth 30, (search (sendable, crosses) fits 5000 depth 30, (search (sendable, crosses) fits 5000 depth 30, (search (sendable, crosses) fits 5000 depth 30, tt))))))),
        ),
      ))

  pub service_sync : IsSend D → IsSync (service.the_row D N f g)
  service_sync d =
      let inner : IsSync (inside.the_row D N f g) = inside_sync d in
      search (inner, sendable) depth 10
