-- The seats of the threads that help one group's log.
use Rattle.std.specs.Prelude.{◌≡◌, ◌⊎◌, ℕ, true, List, length, Option, Some, None}
use Rattle.handler_threads.specs.log_service.declared.seats.LogSeat.{LogSeat}
use Rattle.handler_threads.specs.log_service.declared.helping.Helped.{Helped}
use Rattle.handler_threads.specs.log_service.declared.helping.Helped.TheVariants as helped
use Rattle.handler_threads.specs.log_service.Places.{ServiceId, IsSeatOf, IsLaterSeat, FoundTaken, HadTurn, LastFoundTaken, LastHadTurn}
use Rattle.handler_threads.specs.region_calls.Deals.{AreSeatsOf}

-- there is such a server, and the seat is of its
abbrev pub IsSeatAt : Option ServiceId → LogSeat → Type 0
IsSeatAt None seat = ⊥
IsSeatAt (Some place) seat = IsSeatOf place seat

-- What one turn of each kind did. Busy only where its last exchange on one of the two turn words found the word taken, Nothing only where both were
-- found free or the log is broken, and Something only where it had one of the two turns.
pub record HasHelped (result : Helped) (old new : LogSeat) : Type 0 where
  pub later : IsLaterSeat old new
  pub busy : result ≡ helped.Busy → LastFoundTaken old.consumer.knows new.consumer.knows ⊎ FoundTaken old.device.knows new.device.knows
  pub nothing : result ≡ helped.Nothing
      → (new.device.knows.broken ≡ true) ⊎ (LastHadTurn old.consumer.knows new.consumer.knows × HadTurn old.device.knows new.device.knows)
  pub something : result ≡ helped.Something → LastHadTurn old.consumer.knows new.consumer.knows ⊎ HadTurn old.device.knows new.device.knows

-- how many seats of a group are not handed out
abbrev pub seats_at : Option (List LogSeat) → ℕ
seats_at None = 0
seats_at (Some seats) = length seats

-- they are of the server at this place, where there is one
abbrev pub AreSeatsAt : Option ServiceId → Option (List LogSeat) → Type 0
AreSeatsAt None None = Unit {0}
AreSeatsAt None (Some seats) = ⊥
AreSeatsAt (Some place) None = ⊥
AreSeatsAt (Some place) (Some seats) = AreSeatsOf place seats
