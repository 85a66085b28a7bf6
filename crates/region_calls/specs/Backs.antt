-- Passes and seats that are all back.
use Rattle.std.specs.Prelude.{◌≡◌, ℕ, ◌+◌, ◌≤◌, List, length, map, Contains}
use Rattle.log_berth.specs.Standing.{Standing, AreBack}
use Rattle.pass_calls.specs.log_service.declared.seats.LogSeat.{LogSeat}
use Rattle.pass_calls.specs.log_service.declared.seats.LogSeats.{LogSeats}
use Rattle.pass_calls.specs.log_service.Places.{ServiceId}
use Rattle.pass_calls.specs.region_lock.declared.naming.LockNaming.{Ghosts}
use Rattle.server_model.specs.Pass.{Pass as ThePass}
use Rattle.region_calls.specs.declared.pass.Pass.{Pass}
use Rattle.region_calls.specs.declared.passes.Passes.{Passes}
use Rattle.region_calls.specs.Deals.{AreSeatsOf, ArePassesOf, passes_out, passes_back}

-- seats of the service at this place, all of which may be back, and room for so many more
pub record AreSeats (place : ServiceId) (room : ℕ) (seats : LogSeats) : Type 0 where
  pub consumers : AreBack place.consumer seats.consumers.seats
  pub devices : AreBack place.device seats.devices.seats
  pub rooms : (length seats.consumers.seats + room ≤ seats.consumers.room) × (length seats.devices.seats + room ≤ seats.devices.room)

abbrev pub device_seats : List LogSeat → List Standing
device_seats ss = map (λ s. s.device) ss

-- for each handler one of these passes is its
abbrev pub AreAll : ℕ → List ThePass → Type 0
AreAll handlers passes = (h : ℕ) → 1 ≤ h → h ≤ handlers → (p : ThePass) × Contains passes p × (p.handler ≡ h)

module _ {N : Type 0} {g : Ghosts N} where
  abbrev pub seats_of : List (Pass N g) → List LogSeat
  seats_of ps = map (λ p. p.seat) ps

  -- all passes of the server at this place are back, and both seats of those that help
  pub record AllBack (place : ServiceId) (handlers : ℕ) (p : Passes N g) (helpers : List LogSeat) : Type 0 where
    pub of : ArePassesOf place handlers p
    pub out : passes_out p ≡ handlers
    pub back : length (passes_back p) ≡ handlers
    pub seats : (length helpers ≡ 2) × AreSeatsOf place helpers
