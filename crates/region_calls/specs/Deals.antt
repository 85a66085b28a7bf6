-- The hands of regions that no pass has yet, and the passes that no handler has.
use Rattle.std.specs.Prelude.{◌≡◌, ℕ, ◌+◌, ◌-◌, ◌≤◌, List, [], ◌∷◌, map, length, vec_len, vec_capacity}
use Rattle.std.specs.Global.{Vec}
use Rattle.log_berth.specs.Standing.{AreBack}
use Rattle.pass_calls.specs.log_service.declared.seats.LogSeat.{LogSeat}
use Rattle.pass_calls.specs.log_service.Places.{ServiceId, IsSeatOf}
use Rattle.pass_calls.specs.region_lock.declared.pass.RegionPass.{RegionPass}
use Rattle.pass_calls.specs.region_lock.declared.naming.LockNaming.{Ghosts}
use Rattle.server_model.specs.Pass.{Pass as ThePass}
use Rattle.region_calls.specs.declared.pass.Pass.{Pass}
use Rattle.region_calls.specs.declared.passes.Passes.{Passes}
use Rattle.region_calls.specs.Passes.{knows, IsPassOf}
use Rattle.region_calls.specs.Hands.{AreDeals}

-- each seat is of the service at this place
abbrev pub AreSeatsOf : ServiceId → List LogSeat → Type 0
AreSeatsOf place [] = Unit {0}
AreSeatsOf place (s ∷ ss) = IsSeatOf place s × AreSeatsOf place ss

module _ {N : Type 0} {g : Ghosts N} where
  -- room for the hands of passes
  abbrev pub AreRooms : ℕ → List (Vec (RegionPass N g)) → Type 0
  AreRooms regions [] = Unit {0}
  AreRooms regions (v ∷ vs) = ((v.items ≡ []) × (regions ≤ vec_capacity v)) × AreRooms regions vs

  -- each pass is of the server at this place
  abbrev pub AllOf : ServiceId → List (Pass N g) → Type 0
  AllOf place [] = Unit {0}
  AllOf place (p ∷ ps) = IsPassOf place p × AllOf place ps

  -- how many passes were handed out, and what those know that are back, in order
  abbrev pub passes_out : Passes N g → ℕ
  passes_out p = p.out

  abbrev pub passes_back : Passes N g → List ThePass
  passes_back p = map knows p.back.items

  -- The passes of a server at this place, which has so many handlers: of each handler, from 1 on, its pass was handed out, or its parts are
  -- there; and those that are back.
  pub record ArePassesOf (place : ServiceId) (handlers : ℕ) (p : Passes N g) : Type 0 where
    pub count : length p.regions.items ≡ place.regions
    pub deals : AreDeals (p.out + 1) (handlers - p.out) p.regions.items
    pub all : p.handlers ≡ handlers
    pub rooms : AreRooms place.regions p.rooms.items × (length p.rooms.items + p.out ≡ handlers)
    pub consumers : AreBack place.consumer p.seats.consumers.seats
    pub devices : AreBack place.device p.seats.devices.seats × (length p.seats.devices.seats + p.out ≡ handlers)
    pub room : (handlers + 2 ≤ p.seats.consumers.room) × (handlers + 2 ≤ p.seats.devices.room)
    pub back : AllOf place p.back.items
    pub within : (vec_len p.back ≤ p.out) × (handlers ≤ vec_capacity p.back)
