use Rattle.std.proofs.Common.{◌≡◌}
use Rattle.region_lock.specs.log_service.Places.{IsSeatOf, IsLaterSeat}
use Rattle.pass_calls.proofs.put.ask.Given as goal

abbrev pub invariant-asking : goal.invariant-asking
invariant-asking g l = IsSeatOf l.service l.seat × IsLaterSeat l.initial.seat l.seat × (l.asked ≡ l.initial.asked)
