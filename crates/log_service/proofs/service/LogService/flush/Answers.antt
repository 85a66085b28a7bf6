use Rattle.std.proofs.Common.{◌≡◌, ◌≤◌, ◌-◌, ◌+◌, ℕ, get_or, refl, sym, ap, ◌∙◌, subst, arith}
use Rattle.std.specs.Prelude.{is_none}
use Rattle.crossbeam_queue.specs.Passes.{view}
use Rattle.log_berth.proofs.Joined.{no_more-trans}
use Rattle.log_device.specs.declared.error.DeviceFlush.TheVariants as refusals
use Rattle.log_device.specs.Whole.{log_of, numbers_of}
use Rattle.log_halves.specs.Numbers.{told_numbers}
use Rattle.log_service.specs.Places.{ServiceId}
use Rattle.log_service.specs.declared.seats.LogSeat.{LogSeat}
use Rattle.log_service.proofs.Numbers.{stored_low}
use Rattle.log_service.proofs.SeatLaws.{later_trans, given_later}
use Rattle.log_halves.proofs.Faults.{has_file, is_broken, not_broken, no_flush_fault, then_whole}
use Rattle.log_service.proofs.Sees.{sees_all}
use Rattle.log_halves.specs.declared.starting.Written.{Written}
use Rattle.log_halves.specs.Counts.{flushed_by}
use Rattle.log_service.proofs.service.LogService.flush.Goals as goal

pub give_both-requires-clause-device : goal.give_both-requires-clause-device
give_both-requires-clause-device g c =
    let a = c.take_both-mover.result.1.ware in
    let b = c.flush-flushed.new.committer in
    no_more-trans c.take_both-mover.new.seat.device.knows.seen (told_numbers a.regions (numbers_of a.device)) (told_numbers b.regions (numbers_of b.device)) c.take_both-mover.ensures.device.1 c.flush-flushed.ensures.later

pub returns-clause-flushed : goal.returns-clause-flushed
returns-clause-flushed g c =
    let first = c.take_both-mover.result.1.ware in
    let ware = c.flush-flushed.new.committer in
    let r = c.args.region in
    let n_is : first.regions ≡ c.args.self.now.regions = first.all.0 ∙ (sym c.self.invariant.6 ∙ ap (λ (p : ServiceId). p.regions) c.self.view_is) in
    let old = c.args.seat.now.device.knows.seen in
    let seen = no_more-trans old c.take_both-mover.new.seat.device.knows.seen (told_numbers first.regions (numbers_of first.device)) c.take_both-mover.ensures.later.words c.take_both-mover.ensures.device.1 in
    let low = subst (λ (m : ℕ). get_or old (m + r - 1) 0 ≤ get_or (numbers_of first.device).stored r 0) n_is
    (stored_low first.regions (numbers_of first.device) old r seen c.requires.region.0 (omega (arith, c.requires.region, n_is))) in
    then_whole c.flush-flushed.result refusals.WriteFault c.flush-flushed.ensures.broken.1
    (λ n unbroken said.
    let saw = c.give_both.ensures.saw (sym c.give_both.ensures.broken ∙ not_broken (log_of ware.device) unbroken) in
    record {
      upto = said.0;
      stored = λ all. sym (said.1.stored all) ∙ sym (saw.stored r c.requires.region.0 c.requires.region.1);
      above = λ all. omega (arith, low, said.1.above all);
      last = sym said.1.last ∙ sym (saw.synced r c.requires.region.0 c.requires.region.1);
    })
    c.flush-flushed.ensures.flushed

pub returns-clause-nothing : goal.returns-clause-nothing
returns-clause-nothing g c n is =
    let ware = c.flush-flushed.new.committer in
    let r = c.args.region in
    let said = c.flush-flushed.ensures.nothing n is in
    let unbroken = not_broken (log_of ware.device) (λ broken. no_flush_fault n is (c.flush-flushed.ensures.broken.1 broken)) in
    let saw = c.give_both.ensures.saw (sym c.give_both.ensures.broken ∙ unbroken) in
    record {
      upto = said.0;
      stored = λ all. sym (said.1.stored all) ∙ sym (saw.stored r c.requires.region.0 c.requires.region.1);
      last = sym said.1.last ∙ sym (saw.synced r c.requires.region.0 c.requires.region.1);
    }

pub returns-clause-moved : goal.returns-clause-moved
returns-clause-moved g c whole =
    let unbroken = has_file (log_of c.flush-flushed.new.committer.device) (c.give_both.ensures.broken ∙ whole) in
    record { old = c.take_both-mover.result.0.ware; new = c.flush-flushed.new.self; moved = c.flush-flushed.ensures.moved unbroken }

pub returns-clause-saw : goal.returns-clause-saw
returns-clause-saw g c whole =
    let ware = c.flush-flushed.new.committer in
    let unbroken = has_file (log_of ware.device) (c.give_both.ensures.broken ∙ whole) in
    let n_is : c.args.self.now.regions ≡ ware.regions = sym (ware.all.0 ∙ (sym c.self.invariant.6 ∙ ap (λ (p : ServiceId). p.regions) c.self.view_is)) in
    record {
      half = ware;
      broken = c.give_both.ensures.broken;
      empty = (c.flush-flushed.ensures.drained unbroken).1;
      saw =
          sees_all g.N.ServiceNaming.lasts c.args.self.now.regions (numbers_of ware.device) (view ware.consumer.pass).popped (n_is ∙ ware.all.0) (ware.synced unbroken) (ware.drawn unbroken)
          c.give_both.new.seat.device.knows (c.give_both.ensures.saw whole);
    }

pub returns-clause-later : goal.returns-clause-later
returns-clause-later g c =
    let taken = c.take_both-mover.new.seat in
    let seat : LogSeat = record { consumer = taken.consumer; device = taken.device; written = c.flush-flushed.new.written } in
    let later = c.take_both-mover.ensures.later in
    later_trans c.args.seat.now seat c.give_both.new.seat (record { words = later.words; fault = later.fault; looks = later.looks }) c.give_both.ensures.later

pub returns-then-broken-clause-later : goal.returns-then-broken-clause-later
returns-then-broken-clause-later g c = given_later c.args.seat.now c.take_both-mover.new.seat _ c.take_both-mover.ensures.later c.give.ensures.1

pub returns-clause-fault : goal.returns-clause-fault
returns-clause-fault g c =
    let why = c.flush-flushed.ensures.broken in
    let told = c.give_both.ensures.broken in
    (λ is. sym told ∙ ap is_none (why.0 is), λ set. why.1 (is_broken (log_of c.flush-flushed.new.committer.device) (told ∙ set)))

pub returns-then-broken-clause-nothing : goal.returns-then-broken-clause-nothing
returns-then-broken-clause-nothing g c n is = absurd (no_flush_fault n is refl)

pub returns-clause-family : goal.returns-clause-family
returns-clause-family g c whole =
    let ware = c.flush-flushed.new.committer in
    let unbroken = has_file (log_of ware.device) (c.give_both.ensures.broken ∙ whole) in
    record { half = ware; broken = c.give_both.ensures.broken; sees = c.give_both.ensures.saw whole; flushes = c.flush-flushed.ensures.flushes unbroken }

pub returns-clause-counted : goal.returns-clause-counted
returns-clause-counted g c = c.give_both.ensures.written ∙ (c.flush-flushed.ensures.counted ∙ ap (λ (w : Written). flushed_by c.flush-flushed.result w) c.take_both-mover.ensures.written)
