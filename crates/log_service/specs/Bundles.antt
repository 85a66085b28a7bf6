-- Seats that are handed out and come back, of the consumer's berth and of the device's.
use Rattle.std.specs.Prelude.{◌≡◌, [], ◌∷◌, ◌++◌}
use Rattle.log_berth.specs.Standing.{Bundle}
use Rattle.log_service.specs.declared.seats.LogSeat.{LogSeat}

-- the first ones are those of before, and this one stands after them
abbrev pub IsBehind : Bundle → Bundle → Bundle → Bundle → LogSeat → Type 0
IsBehind consumers now_consumers devices now_devices seat =
    (now_consumers.seats ≡ consumers.seats ++ seat.consumer ∷ []) × (now_devices.seats ≡ devices.seats ++ seat.device ∷ [])

-- this one, the last, was taken out, and there is as much room as before
abbrev pub IsHandedOut : Bundle → Bundle → Bundle → Bundle → LogSeat → Type 0
IsHandedOut consumers now_consumers devices now_devices seat =
    (consumers.seats ≡ now_consumers.seats ++ seat.consumer ∷ []) × (devices.seats ≡ now_devices.seats ++ seat.device ∷ [])
    × (now_consumers.room ≡ consumers.room) × (now_devices.room ≡ devices.room)
