-- What the answers of turns tell. A half lies in its berth before and after a turn, so these say what its work has shown of it, and of the words that the seat has seen.
use Rattle.std.specs.Prelude.{◌≡◌, ◌⊎◌, ℕ, ◌+◌, ◌<◌, ◌≤◌, List, [], ◌∷◌, ◌++◌, length, Option, Result}
use Rattle.crossbeam_queue.specs.Passes.{view}
use Rattle.append_ring.specs.Rules.{base_of}
use Rattle.log_berth.specs.declared.known.Known.{Known}
use Rattle.log_berth.specs.Words.{NoMore}
use Rattle.log_trucks.specs.Held.{Held}
use Rattle.log_halves.specs.declared.item.Item.{Item}
use Rattle.disk_images.specs.declared.disk.Disk.{Ghosts as Disks}
use Rattle.log_device.specs.declared.error.Rolled.{Rolled}
use Rattle.log_device.specs.declared.error.RollRefusal.{RollRefusal}
use Rattle.log_device.specs.declared.error.DeviceFlush.{DeviceFlush}
use Rattle.log_device.specs.Whole.{numbers_of}
use Rattle.log_halves.specs.declared.name.ServiceNaming.{Ghosts}
use Rattle.log_halves.specs.declared.consumer.ConsumerHalf.{ConsumerHalf}
use Rattle.log_halves.specs.declared.committer.DeviceHalf.{DeviceHalf}
use Rattle.log_halves.specs.Halves.{broken_of}
use Rattle.log_halves.specs.Trucks.{come_to}
use Rattle.log_halves.specs.Chains.{all_trucks, AreInOrder}
use Rattle.log_halves.specs.Moves.{bench_of, HasMoved, IsTooLong, WasEmpty, WasFull}
use Rattle.log_halves.specs.Numbers.{told_numbers, seen_synced, HasSeen}
use Rattle.log_halves.specs.Steps.{RollsFile, FlushesFamily}

-- ---- turns of the consumer

-- A half of this service was as old, and is as new: n items were moved.
pub record HasMovedItems {N : Type 0} (g : Ghosts N) (n : ℕ) : Type 0 where
  pub old : ConsumerHalf N g
  pub new : ConsumerHalf N g
  pub items : List Item
  pub count : length items ≡ n
  pub moved : HasMoved (bench_of old) (bench_of new) items

-- no item was moved, and the ring was empty at a moment
pub record FoundEmpty {N : Type 0} (g : Ghosts N) : Type 0 where
  pub old : ConsumerHalf N g
  pub new : ConsumerHalf N g
  pub moved : HasMoved (bench_of old) (bench_of new) []
  pub empty : WasEmpty (view new.consumer.pass)

-- no item was moved: the next one is held, and doesn't fit the chain
pub record FoundTooLong {N : Type 0} (g : Ghosts N) : Type 0 where
  pub old : ConsumerHalf N g
  pub new : ConsumerHalf N g
  pub moved : HasMoved (bench_of old) (bench_of new) []
  pub long : IsTooLong (bench_of new)

-- items were moved until the ring was empty at a moment, or 1,024 were moved, the first of which may have been held
pub record HasMovedAll {N : Type 0} (g : Ghosts N) : Type 0 where
  pub old : ConsumerHalf N g
  pub new : ConsumerHalf N g
  pub moved : WasEmpty (view new.consumer.pass) ⊎ (length (view old.consumer.pass).popped + 1023 ≤ length (view new.consumer.pass).popped)

-- ---- turns of the device

-- the seat has seen each synced word at the number of its region's last entry in these chains, or that of the start
abbrev pub SawCommitted : List ℕ → Known → List (List Held) → Type 0
SawCommitted lasts k chains = (r : ℕ) → 0 < r → r ≤ length lasts → seen_synced k r ≡ come_to (base_of lasts) (all_trucks chains) r

-- A half of this service popped a chain of n entries after others, and committed it. The seat had seen no word above what the half told
-- before, and now it has seen each one at what all chains popped come to.
pub record HasSynced {D N : Type 0} (d : Disks D) (g : Ghosts N) (old new : Known) (n : ℕ) : Type 0 where
  pub before : DeviceHalf D N d g
  pub after : DeviceHalf D N d g
  pub chain : List Held
  pub count : n ≡ length chain
  pub some : 1 ≤ n
  pub popped : (view after.consumer.pass).popped ≡ (view before.consumer.pass).popped ++ chain ∷ []
  pub in_order : AreInOrder g.lasts (view after.consumer.pass).popped
  pub below : NoMore old.seen (told_numbers before.regions (numbers_of before.device))
  pub broken : broken_of after.device ≡ new.broken
  pub sees : SawCommitted g.lasts new (view after.consumer.pass).popped

-- A half of this service found the ring of chains empty at a moment, and the seat has seen no word above what the half tells.
pub record FoundNoChain {D N : Type 0} (d : Disks D) (g : Ghosts N) (k : Known) : Type 0 where
  pub half : DeviceHalf D N d g
  pub broken : broken_of half.device ≡ k.broken
  pub below : NoMore k.seen (told_numbers half.regions (numbers_of half.device))
  pub empty : WasFull 0 (view half.consumer.pass)

-- A half of this service found the ring of chains empty at a moment, and the seat has seen each word at what the half tells.
pub record SawAllChains {D N : Type 0} (d : Disks D) (g : Ghosts N) (k : Known) : Type 0 where
  pub half : DeviceHalf D N d g
  pub broken : broken_of half.device ≡ k.broken
  pub empty : WasFull 0 (view half.consumer.pass)
  pub saw : SawCommitted g.lasts k (view half.consumer.pass).popped

-- ---- rolls and flushes, where there are n regions: what was answered is of a half of this service, each word of which the seat has seen

pub record HasRolledFile {D N : Type 0} (d : Disks D) (g : Ghosts N) (n : ℕ) (result : Result Rolled RollRefusal) (k : Known) : Type 0 where
  pub half : DeviceHalf D N d g
  pub broken : broken_of half.device ≡ k.broken
  pub sees : HasSeen n k (numbers_of half.device)
  pub rolls : RollsFile d g result half

pub record HasFlushedFamily {D N : Type 0} (d : Disks D) (g : Ghosts N) (n r : ℕ) (family : Option (List ℕ)) (result : Result ℕ DeviceFlush) (k : Known) : Type 0 where
  pub half : DeviceHalf D N d g
  pub broken : broken_of half.device ≡ k.broken
  pub sees : HasSeen n k (numbers_of half.device)
  pub flushes : FlushesFamily d g r family result half
