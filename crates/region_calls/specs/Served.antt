-- What holds of a server.
use Rattle.std.specs.Prelude.{◌≡◌, ℕ, ◌+◌, ◌≤◌, Bool, List, [], length, replicate, Option, IsTrue}
use Rattle.atomic_table.specs.Seated.{TableId}
use Rattle.append_ring.specs.declared.pass.RingKey.{RingKey}
use Rattle.append_ring.specs.Parts.{AreOut}
use Rattle.append_ring.specs.Rules.{base_of as last_before}
use Rattle.log_model.specs.Files.{Files}
use Rattle.recovery_laws.specs.Alike.{AllAlike}
use Rattle.region_model.specs.Journal.{Base, Caller}
use Rattle.pass_calls.specs.log_service.log_halves.declared.item.Item.{Item}
use Rattle.log_berth.specs.Words.{starts}
use Rattle.log_berth.specs.Standing.{fresh}
use Rattle.pass_calls.specs.log_service.declared.seats.LogSeats.{LogSeats}
use Rattle.pass_calls.specs.log_service.Places.{ServiceId}
use Rattle.region_replay.specs.Opened.{AtMostOneHigher}
use Rattle.server_model.specs.Pass.{Naming}
use Rattle.region_calls.specs.Bases.{IsBaseOf}
use Rattle.region_calls.specs.Cleared.{AreCleared}
use Rattle.region_calls.specs.Names.{name_of}

-- What its name tells of a server, its log's ring and regions; and of the files as they were found, and as they were when the log was begun:
-- they recover to the regions' bases.
pub record IsBegun (told : Bool) (name : Naming) (found : Files) (handlers : ℕ) (flushes : ℕ → List Caller) (ring : TableId) (lasts : List ℕ) (begun : Files) (bases : ℕ → Base) (place : ServiceId) : Type 0 where
  pub named : name ≡ name_of (length lasts) handlers bases flushes
  pub ring_is : place.ring ≡ ring
  pub some : (1 ≤ place.regions) × (place.regions ≤ 64)
  pub all : place.regions ≡ length lasts
  pub seats : place.seats ≡ handlers + 2
  pub alike : IsTrue told → AllAlike found begun
  pub higher : IsTrue told → AtMostOneHigher found begun
  pub recovered : IsTrue told → (r : ℕ) → 1 ≤ r → r ≤ place.regions → IsBaseOf found r (bases r)
  pub cleared : IsTrue told → AreCleared begun
  pub lasts_are : (r : ℕ) → 1 ≤ r → r ≤ place.regions → last_before lasts r ≡ (bases r).last

-- Each region has a lock, in which its key of the ring is.
pub record AreLocked (place : ServiceId) (count : ℕ) (places : List (Option (RingKey Item))) : Type 0 where
  pub locks : count ≡ place.regions
  pub out : AreOut (length places) places
  pub all : length places ≡ place.regions

-- so many seats at this place, which have made no step
pub record AreNewSeats (place : ServiceId) (n : ℕ) (seats : LogSeats) : Type 0 where
  pub consumers : seats.consumers.seats ≡ replicate n (fresh place.consumer (starts 1 []))
  pub devices : (numbers : List ℕ) × (seats.devices.seats ≡ replicate n (fresh place.device numbers))
  pub room : (n ≤ seats.consumers.room) × (n ≤ seats.devices.room)
