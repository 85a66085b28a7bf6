-- What a handler's pass knows of its server.
use Rattle.std.specs.Prelude.{◌≡◌, ℕ, zero, suc, ◌+◌, List, [], length, Option, Some, None, slice_get}
use Rattle.hand_register.specs.Rule.{empty}
use Rattle.pass_calls.specs.log_service.declared.seats.LogSeat.{LogSeat}
use Rattle.pass_calls.specs.log_service.declared.tally.PutTally.{PutTally}
use Rattle.pass_calls.specs.log_service.Places.{ServiceId, IsSeatOf}
use Rattle.pass_calls.specs.log_service.Tallies.{no_tally}
use Rattle.server_model.specs.Pass.{Known, Pass as ThePass}
use Rattle.pass_calls.specs.region_lock.declared.pass.RegionPass.{RegionPass}
use Rattle.pass_calls.specs.region_lock.declared.naming.LockNaming.{Ghosts}
use Rattle.pass_calls.specs.region_lock.Parts.{AreCalledBelow}
use Rattle.pass_calls.specs.region_lock.Passes.{known_of}
use Rattle.region_calls.specs.declared.pass.Pass.{Pass}

abbrev pub nothing_known : Known
nothing_known = record { own = []; shown = []; spent = []; synced = 0; stored = 0; closed = 0 }

module _ {N : Type 0} {g : Ghosts N} where
  abbrev pub known_at : ℕ → LogSeat → Option (RegionPass N g) → Known
  known_at n seat None = nothing_known
  known_at n seat (Some p) = known_of n p seat

  -- of each region, from 1 on; of another number nothing
  abbrev pub known_in : List (RegionPass N g) → LogSeat → ℕ → Known
  known_in ps seat zero = nothing_known
  known_in ps seat (suc k) = known_at (length ps) seat (slice_get ps k)

  abbrev pub pass_of : ℕ → ℕ → List (RegionPass N g) → LogSeat → ThePass
  pass_of handler calls ps seat = record { handler = handler; calls = calls; known = known_in ps seat; broken = seat.device.knows.broken }

  abbrev pub knows : Pass N g → ThePass
  knows p = pass_of p.handler p.calls p.regions.items p.seat

  abbrev pub tally_at : Option (RegionPass N g) → PutTally
  tally_at None = no_tally
  tally_at (Some p) = p.tally

  -- what is counted of the puts into each region, from 1 on
  abbrev pub tally_in : List (RegionPass N g) → ℕ → PutTally
  tally_in ps zero = no_tally
  tally_in ps (suc k) = tally_at (slice_get ps k)

  -- what a pass counts of its puts into region r
  abbrev pub tally_of : ℕ → Pass N g → PutTally
  tally_of r p = tally_in p.regions.items r

  -- a handler's hands of this region, between calls: no flush of it is marked, and no call is above its last one
  pub record IsHandOf (handler calls r : ℕ) (p : RegionPass N g) : Type 0 where
    pub region : p.viewer.region ≡ r
    pub number : p.hand.number ≡ handler
    pub mark : p.hand.record.mark ≡ 0
    pub called : AreCalledBelow (calls + 1) p.hand.record.list

  abbrev pub AreHandsOf : ℕ → ℕ → List (RegionPass N g) → Type 0
  AreHandsOf handler calls ps = (k : ℕ) (p : RegionPass N g) → slice_get ps k ≡ Some p → IsHandOf handler calls (k + 1) p

  -- a pass of the server at this place: its seat is one there, and it has hands of each region
  pub record IsPassOf (place : ServiceId) (p : Pass N g) : Type 0 where
    pub seat : IsSeatOf place p.seat
    pub count : length p.regions.items ≡ place.regions
    pub hands : AreHandsOf p.handler p.calls p.regions.items

  -- a hand of this region and handler by which nothing was done yet
  pub record IsNewHand (r handler : ℕ) (p : RegionPass N g) : Type 0 where
    pub region : p.viewer.region ≡ r
    pub lines : p.viewer.lines ≡ []
    pub number : p.hand.number ≡ handler
    pub own : p.hand.record ≡ empty
    pub told : p.told.record ≡ empty

  abbrev pub AreNewHands : ℕ → List (RegionPass N g) → Type 0
  AreNewHands handler ps = (k : ℕ) (p : RegionPass N g) → slice_get ps k ≡ Some p → IsNewHand (k + 1) handler p
