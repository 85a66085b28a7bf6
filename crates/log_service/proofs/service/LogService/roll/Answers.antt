use Rattle.std.proofs.Common.{◌≡◌, refl, sym, ap, ◌∙◌}
use Rattle.std.specs.Prelude.{is_none}
use Rattle.crossbeam_queue.specs.Passes.{view}
use Rattle.log_berth.proofs.Joined.{no_more-trans}
use Rattle.log_device.specs.declared.error.RollRefusal.TheVariants as refusals
use Rattle.log_device.specs.Whole.{log_of, numbers_of}
use Rattle.log_halves.specs.Numbers.{told_numbers}
use Rattle.log_service.specs.Places.{ServiceId}
use Rattle.log_service.specs.declared.seats.LogSeat.{LogSeat}
use Rattle.log_service.proofs.SeatLaws.{later_trans, given_later}
use Rattle.log_halves.proofs.Faults.{has_file, is_broken, not_broken, no_roll_fault, then_whole}
use Rattle.log_service.proofs.Sees.{sees_all, closed_over}
use Rattle.log_halves.specs.declared.starting.Written.{Written}
use Rattle.log_halves.specs.Counts.{rolled_by}
use Rattle.log_service.proofs.service.LogService.roll.Goals as goal

pub give_both-requires-clause-device : goal.give_both-requires-clause-device
give_both-requires-clause-device g c =
    let a = c.take_both-mover.result.1.ware in
    let b = c.roll-rolled.new.committer in
    no_more-trans c.take_both-mover.new.seat.device.knows.seen (told_numbers a.regions (numbers_of a.device)) (told_numbers b.regions (numbers_of b.device)) c.take_both-mover.ensures.device.1 c.roll-rolled.ensures.later

pub returns-clause-rolled : goal.returns-clause-rolled
returns-clause-rolled g c whole =
    let ware = c.roll-rolled.new.committer in
    let unbroken = has_file (log_of ware.device) (c.give_both.ensures.broken ∙ whole) in
    record { half = ware; broken = c.give_both.ensures.broken; sees = c.give_both.ensures.saw whole; rolls = c.roll-rolled.ensures.rolls unbroken }

pub returns-clause-moved : goal.returns-clause-moved
returns-clause-moved g c whole =
    let unbroken = has_file (log_of c.roll-rolled.new.committer.device) (c.give_both.ensures.broken ∙ whole) in
    record { old = c.take_both-mover.result.0.ware; new = c.roll-rolled.new.self; moved = c.roll-rolled.ensures.moved unbroken }

pub returns-clause-saw : goal.returns-clause-saw
returns-clause-saw g c whole =
    let ware = c.roll-rolled.new.committer in
    let unbroken = has_file (log_of ware.device) (c.give_both.ensures.broken ∙ whole) in
    let n_is : c.args.self.now.regions ≡ ware.regions = sym (ware.all.0 ∙ (sym c.self.invariant.6 ∙ ap (λ (p : ServiceId). p.regions) c.self.view_is)) in
    record {
      half = ware;
      broken = c.give_both.ensures.broken;
      empty = (c.roll-rolled.ensures.drained unbroken).1;
      saw =
          sees_all g.N.ServiceNaming.lasts c.args.self.now.regions (numbers_of ware.device) (view ware.consumer.pass).popped (n_is ∙ ware.all.0) (ware.synced unbroken) (ware.drawn unbroken)
          c.give_both.new.seat.device.knows (c.give_both.ensures.saw whole);
    }

pub returns-clause-closed : goal.returns-clause-closed
returns-clause-closed g c =
    let first = c.take_both-mover.result.1.ware in
    let ware = c.roll-rolled.new.committer in
    let old = c.args.seat.now.device.knows.seen in
    let mid = c.take_both-mover.new.seat.device.knows.seen in
    let n_is : ware.regions ≡ c.args.self.now.regions = ware.all.0 ∙ (sym c.self.invariant.6 ∙ ap (λ (p : ServiceId). p.regions) c.self.view_is) in
    let seen = no_more-trans old mid (told_numbers first.regions (numbers_of first.device)) c.take_both-mover.ensures.later.words c.take_both-mover.ensures.device.1 in
    let low = no_more-trans old (told_numbers first.regions (numbers_of first.device)) (told_numbers ware.regions (numbers_of ware.device)) seen c.roll-rolled.ensures.later in
    then_whole c.roll-rolled.result refusals.WriteFault c.roll-rolled.ensures.broken.1
    (λ rolled unbroken closed.
    let saw = c.give_both.ensures.saw (sym c.give_both.ensures.broken ∙ not_broken (log_of ware.device) unbroken) in
    closed_over ware.regions c.args.self.now.regions n_is c.give_both.new.seat.device.knows (numbers_of ware.device) old low saw closed)
    c.roll-rolled.ensures.closed

pub returns-clause-nothing : goal.returns-clause-nothing
returns-clause-nothing g c n is =
    let first = c.take_both-mover.result.1.ware in
    let ware = c.roll-rolled.new.committer in
    let old = c.args.seat.now.device.knows.seen in
    let mid = c.take_both-mover.new.seat.device.knows.seen in
    let n_is : ware.regions ≡ c.args.self.now.regions = ware.all.0 ∙ (sym c.self.invariant.6 ∙ ap (λ (p : ServiceId). p.regions) c.self.view_is) in
    let seen = no_more-trans old mid (told_numbers first.regions (numbers_of first.device)) c.take_both-mover.ensures.later.words c.take_both-mover.ensures.device.1 in
    let low = no_more-trans old (told_numbers first.regions (numbers_of first.device)) (told_numbers ware.regions (numbers_of ware.device)) seen c.roll-rolled.ensures.later in
    let unbroken = not_broken (log_of ware.device) (λ broken. no_roll_fault n is (c.roll-rolled.ensures.broken.1 broken)) in
    let saw = c.give_both.ensures.saw (sym c.give_both.ensures.broken ∙ unbroken) in
    closed_over ware.regions c.args.self.now.regions n_is c.give_both.new.seat.device.knows (numbers_of ware.device) old low saw (c.roll-rolled.ensures.nothing n is)

pub returns-clause-later : goal.returns-clause-later
returns-clause-later g c =
    let taken = c.take_both-mover.new.seat in
    let seat : LogSeat = record { consumer = taken.consumer; device = taken.device; written = c.roll-rolled.new.written } in
    let later = c.take_both-mover.ensures.later in
    later_trans c.args.seat.now seat c.give_both.new.seat (record { words = later.words; fault = later.fault; looks = later.looks }) c.give_both.ensures.later

pub returns-then-broken-clause-later : goal.returns-then-broken-clause-later
returns-then-broken-clause-later g c = given_later c.args.seat.now c.take_both-mover.new.seat _ c.take_both-mover.ensures.later c.give.ensures.1

pub returns-clause-fault : goal.returns-clause-fault
returns-clause-fault g c =
    let why = c.roll-rolled.ensures.broken in
    let told = c.give_both.ensures.broken in
    (λ is. sym told ∙ ap is_none (why.0 is), λ set. why.1 (is_broken (log_of c.roll-rolled.new.committer.device) (told ∙ set)))

pub returns-then-broken-clause-nothing : goal.returns-then-broken-clause-nothing
returns-then-broken-clause-nothing g c n is = absurd (no_roll_fault n is refl)

pub returns-clause-counted : goal.returns-clause-counted
returns-clause-counted g c = c.give_both.ensures.written ∙ (c.roll-rolled.ensures.counted ∙ ap (λ (w : Written). rolled_by c.roll-rolled.result w) c.take_both-mover.ensures.written)
