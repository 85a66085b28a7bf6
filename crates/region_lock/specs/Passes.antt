-- What a pass knows of one region.
use Rattle.std.specs.Prelude.{◌≡◌, ℕ, ◌<◌, ◌≤◌}
use Rattle.atomic_table.specs.Seated.{TableId}
use Rattle.log_service.specs.declared.seats.LogSeat.{LogSeat}
use Rattle.log_service.specs.Numbers.{seen_synced, seen_stored, seen_closed}
use Rattle.log_service.specs.Places.{ServiceId, IsSeatOf}
use Rattle.region_model.specs.Lines.{edits_in}
use Rattle.server_model.specs.Pass.{Known}
use Rattle.region_lock.specs.declared.pass.RegionPass.{RegionPass}
use Rattle.region_lock.specs.declared.naming.LockNaming.{Ghosts}

module _ {N : Type 0} {g : Ghosts N} where
  -- what it knows of its region, with this seat of a service of n regions
  abbrev pub known_of : ℕ → RegionPass N g → LogSeat → Known
  known_of n p seat = record {
    own = edits_in p.viewer.region p.hand.record.list;
    shown = edits_in p.viewer.region p.viewer.lines;
    spent = p.told.record.list;
    synced = seen_synced seat.device.knows p.viewer.region;
    stored = seen_stored n seat.device.knows p.viewer.region;
    closed = seen_closed n seat.device.knows p.viewer.region;
  }

  -- the viewer stays, and so do the hands' numbers and marks
  abbrev pub SameView : RegionPass N g → RegionPass N g → Type 0
  SameView old new = (new.viewer ≡ old.viewer) × (new.hand.number ≡ old.hand.number) × (new.hand.record.mark ≡ old.hand.record.mark)

  -- the pass stays one of its region and of its handler, with the same mark
  abbrev pub SamePass : RegionPass N g → RegionPass N g → Type 0
  SamePass old new =
      (new.viewer.region ≡ old.viewer.region) × (new.hand.number ≡ old.hand.number) × (new.hand.record.mark ≡ old.hand.record.mark)

  -- all stays but the mark of the first hand
  abbrev pub SameButMark : RegionPass N g → RegionPass N g → Type 0
  SameButMark old new =
      (new.viewer ≡ old.viewer) × (new.hand.number ≡ old.hand.number) × (new.hand.record.list ≡ old.hand.record.list) × (new.told ≡ old.told)

-- the service is over this ring, the region is one of its own, and so is the seat, which has no turn
pub record IsAtService (named : TableId) (place : ServiceId) (r : ℕ) (used : LogSeat) : Type 0 where
  pub ring : place.ring ≡ named
  pub region : (0 < r) × (r ≤ place.regions)
  pub seat : IsSeatOf place used
