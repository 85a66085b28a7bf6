-- The halves of a service may go to other threads, and so may items and chains. The check's own search doesn't get through all of it at once,
-- so each step is shown by itself.
use denote.RattleType.{RattleType}
use denote.Param.Send.{IsSend, sendable, recorded_send, struct_send}
use denote.Struct.Struct.{Struct}
use denote.Struct.Declared.{shape}
use Rattle.std.proofs.Crossing.{crosses}
use Rattle.seq_accounting.proofs.Crossing.{families_send, accounting_send}
use Rattle.log_trucks.proofs.truck.Truck.TheLaws.TheKnot as truck
use Rattle.log_trucks.specs.contracts.truck.Truck as trucks
use Rattle.log_trucks.specs.contracts.chain.Chain as chain
use Rattle.log_trucks.specs.contracts.chains.Chains as chains
use Rattle.log_ledger.specs.contracts.ledger.Ledger as ledger
use Rattle.log_device.specs.contracts.device.Device as device
use Rattle.log_file.proofs.file.LogFile.TheSendSync as log_file
use Rattle.append_ring.specs.contracts.pass.ConsumerPass as of_items
use Rattle.append_ring.specs.contracts.pass.RingKey as of_frame_chains
use Rattle.append_ring.specs.contracts.keys.RingKeys as idle
use Rattle.atomic_table.proofs.shared.Seat.TheSendSync as seat
use Rattle.log_halves.specs.declared.name.ServiceNaming.{Ghosts}
use Rattle.disk_images.specs.declared.disk.Disk.{Ghosts as DiskGhosts}
use Rattle.log_halves.specs.contracts.consumer.ConsumerHalf as mover
use Rattle.log_halves.specs.contracts.committer.DeviceHalf as committer
use Rattle.log_halves.specs.contracts.item.Item as item
use Rattle.log_halves.specs.contracts.item.ItemOfRegion.TheImpl as item_impl
use Rattle.log_halves.specs.contracts.chain.FrameChain as frame_chain
use Rattle.log_halves.specs.contracts.chain.FrameChainOfRegion.TheImpl as frame_chain_impl

truck_send : IsSend trucks.the_row
truck_send = search (truck.send-Truck, families_send, sendable, crosses) depth 20

chain_send : IsSend chain.the_row
chain_send = search (truck_send, sendable, crosses) depth 20

pub item_send : IsSend item.the_row
item_send = search (truck_send, sendable, crosses) depth 20

pub frame_chain_send : IsSend frame_chain.the_row
frame_chain_send = search (chain_send, sendable, crosses) depth 20

chains_send : IsSend chains.the_row
chains_send = search (chain_send, sendable, crosses) depth 20

ledger_send : IsSend ledger.the_row
ledger_send = search (chains_send, accounting_send, sendable, crosses) fits 5000 depth 30

-- as a field of a struct
items_send : IsSend (of_items.the_field item.the_row item_impl.ghosts).row
items_send = search (seat.the_send, item_send, sendable, crosses) fits 5000 depth 30

frame_chains_send : IsSend (of_frame_chains.the_field frame_chain.the_row).row
frame_chains_send = search (seat.the_send, frame_chain_send, sendable, crosses) fits 5000 depth 30

idle_send : IsSend (idle.the_field frame_chain.the_row).row
idle_send = search (frame_chains_send, seat.the_send, frame_chain_send, sendable, crosses) fits 5000 depth 30

module _ (N : RattleType) (g : Ghosts N.Denot) where
  pub mover_send : IsSend (mover.the_row N g)
  mover_send =
      let T = mover.the_type N g in
      recorded_send (Struct (shape T)) T.D T.to T.to_one
      (struct_send (shape T) (items_send, (frame_chain_send, (search (item_send, sendable, crosses) depth 20, (frame_chains_send, (idle_send, (search sendable, (search sendable, (search (sendable, crosses) depth 20, tt)))))))))

device_send : (D : RattleType) → IsSend D → IsSend (device.the_field D).row
device_send D d = search (log_file.the_send, ledger_send, sendable, crosses) fits 5000 depth 30

popped_send : IsSend (of_items.the_field frame_chain.the_row frame_chain_impl.ghosts).row
popped_send = search (seat.the_send, frame_chain_send, sendable, crosses) fits 5000 depth 30

module _ (D N : RattleType) (f : DiskGhosts D.Denot) (g : Ghosts N.Denot) where
  pub committer_send : IsSend D → IsSend (committer.the_row D N f g)
  committer_send d =
      let T = committer.the_type D N f g in
      recorded_send (Struct (shape T)) T.D T.to T.to_one (struct_send (shape T) (device_send D d, (popped_send, (search sendable, (search (sendable, crosses) depth 20, tt)))))
