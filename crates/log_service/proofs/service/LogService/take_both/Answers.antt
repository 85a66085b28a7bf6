use Rattle.std.proofs.Common.{ap, arith}
use Rattle.log_berth.specs.declared.known.Tally.{Tally}
use Rattle.log_service.specs.declared.seats.LogSeat.{LogSeat}
use Rattle.log_service.proofs.SeatLaws.{later_trans}
use Rattle.log_service.proofs.service.LogService.take_both.Goals as goal

pub returns-in-Ok-take-clause-later : goal.returns-in-Ok-take-clause-later
returns-in-Ok-take-clause-later g c =
    let after : LogSeat = record { consumer = c.take.new.seat; device = c.take-in-loop-try.new.seat; written = c.loop-try.seat.written } in
    let held = c.in-Ok-take.ensures.taken.1 in
    let same = ap (λ (t : Tally). t.looks) held.tally in
    later_trans c.args.seat.now c.loop-try.seat after c.loop-try.invariant.later (record { words = held.seen; fault = held.stands; looks = omega (arith, same) })
