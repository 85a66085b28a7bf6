use Rattle.std.proofs.Common.{◌≡◌}
use Rattle.region_lock.specs.log_service.Places.{IsSeatOf, IsLaterSeat}
use Rattle.region_lock.specs.Jobs.{IsJob, line_of}
use Rattle.region_lock.specs.Passes.{SameView}
use Rattle.region_lock.specs.Puts.{WasWatched}
use Rattle.pass_calls.proofs.drawing.draw.Given as goal

abbrev pub invariant-trying : goal.invariant-trying
invariant-trying g l =
    SameView l.initial.at l.at
    × (l.at.hand.record.list ≡ l.initial.at.hand.record.list) × (l.at.told.record.list ≡ l.initial.at.told.record.list)
    × IsSeatOf l.service l.seat × IsLaterSeat l.initial.seat l.seat
    × IsJob l.initial.at.viewer.region l.job × (line_of 0 l.job ≡ line_of 0 l.initial.job)
    × (l.at.tally.asked ≡ l.initial.at.tally.asked) × WasWatched l.initial.at.tally.watch l.at.tally.watch
