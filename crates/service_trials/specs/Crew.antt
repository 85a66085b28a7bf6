-- The passes and the seats of sixteen members, which go out one by one and come back.
use Rattle.std.specs.Prelude.{◌≡◌, ℕ, ◌+◌, ◌-◌, ◌≤◌, List, length, replicate, Option}
use Rattle.append_ring.specs.declared.pass.RingKey.{RingKey}
use Rattle.append_ring.specs.Parts.{AreNewAfter, ArePlacesBack, last_pushed}
use Rattle.log_berth.specs.Standing.{Bundle, AreBack}
use Rattle.log_service.specs.log_halves.declared.item.Item.{Item}
use Rattle.log_service.specs.Items.{number_of}
use Rattle.log_service.specs.Places.{ServiceId, IsSeatOf}
use Rattle.service_trials.specs.declared.member.Member.{Member}

-- its pass and its seat are of this service, and it counts what was pushed for its region
pub record IsOf (place : ServiceId) (m : Member) : Type 0 where
  pub ring : m.pass.pass.table_id ≡ place.ring
  pub region : (1 ≤ m.pass.region) × (m.pass.region ≤ place.regions) × (m.pass.region ≤ 64)
  pub last : last_pushed number_of m.pass ≡ m.pushed
  pub seat : IsSeatOf place m.seat

-- these seats are of the service, and so many are missing of sixteen
pub record AreSeats (place : ServiceId) (missing : ℕ) (movers committers : Bundle) : Type 0 where
  pub consumers : AreBack place.consumer movers.seats
  pub devices : AreBack place.device committers.seats
  pub counts : (length movers.seats + missing ≡ 16) × (length committers.seats + missing ≡ 16)
  pub rooms : (16 ≤ movers.room) × (16 ≤ committers.room)

-- the passes of the first n of sixteen regions are handed out, of which nothing was stored, and as many seats
pub record AreOut (place : ServiceId) (n : ℕ) (places : List (Option (RingKey Item))) (movers committers : Bundle) : Type 0 where
  pub passes : AreNewAfter place.ring (replicate 16 0) 0 n places
  pub all : length places ≡ 16
  pub seats : AreSeats place n movers committers

-- of sixteen passes and seats the first n are back, and the passes are of the service
pub record AreIn (place : ServiceId) (n : ℕ) (places : List (Option (RingKey Item))) (movers committers : Bundle) : Type 0 where
  pub passes : ArePlacesBack (λ p. p.pass.table_id ≡ place.ring) n places
  pub all : length places ≡ 16
  pub seats : AreSeats place (16 - n) movers committers
