use Rattle.std.proofs.Common.{◌≡◌}
use mathlib.Core.List.{IsPrefix}
use Rattle.region_lock.specs.log_service.Places.{IsSeatOf, IsLaterSeat}
use Rattle.region_lock.specs.Hands.{SameHand}
use Rattle.pass_calls.proofs.ending.show.Given as goal

abbrev pub invariant-showing : goal.invariant-showing
invariant-showing g l =
    IsSeatOf l.service l.seat × IsLaterSeat l.initial.seat l.seat
    × (l.at.viewer.region ≡ l.initial.at.viewer.region) × IsPrefix l.initial.at.viewer.lines l.at.viewer.lines
    × ((l.at.hand.record ≡ l.initial.at.hand.record) × SameHand l.initial.at.hand l.at.hand) × (l.at.told.record.list ≡ l.initial.at.told.record.list)
    × (l.at.tally ≡ l.initial.at.tally)
