use Rattle.std.proofs.Common.{◌≡◌, ◌<◌, ◌≤◌, ℕ, true, Err, refl, ap, ◌∙◌}
use Rattle.region_lock.specs.log_service.Numbers.{seen_synced, seen_closed}
use Rattle.region_lock.specs.log_service.Places.{IsLaterSeat}
use Rattle.region_lock.specs.log_service.declared.seats.LogSeat.{LogSeat}
use Rattle.region_lock.specs.log_service.log_device.declared.error.RollRefusal.{RollRefusal}
use Rattle.region_lock.specs.log_service.log_device.declared.error.RollRefusal.TheVariants as roll
use Rattle.region_lock.specs.Answers.{roll_answer}
use Rattle.region_lock.specs.Calls.{RollsAt}
use Rattle.pass_calls.proofs.roll.roll_in.Goals as goal

refused : (n : ℕ) (why : RollRefusal) (old new : LogSeat) → IsLaterSeat old new
    → ((m : ℕ) → why ≡ roll.NothingToRoll m → (r : ℕ) → 0 < r → r ≤ n → seen_synced old.device.knows r ≤ seen_closed n new.device.knows r)
    → (why ≡ roll.WriteFault → new.device.knows.broken ≡ true) → RollsAt n (roll_answer (Err why)) old new
refused n roll.Memory old new later nothing fault = record { later = later; closed = λ r above within rolled. absurd rolled; fault = λ e. absurd (cc e) }
refused n roll.WriteFault old new later nothing fault = record { later = later; closed = λ r above within rolled. absurd rolled; fault = λ e. fault refl }
refused n (roll.NothingToRoll m) old new later nothing fault = record { later = later; closed = λ r above within rolled. nothing m refl r above within; fault = λ e. absurd (cc e) }

pub returns-in-Err-clause-rolls : goal.returns-in-Err-clause-rolls
returns-in-Err-clause-rolls g c =
    let is = c.in-Err.is in
    refused c.args.service.now.regions c.in-Err.refusal c.args.seat.now c.roll.new.seat c.roll.ensures.later (λ m e. c.roll.ensures.nothing m (is ∙ ap Err e)) (λ e. c.roll.ensures.fault.0 (is ∙ ap Err e))

pub returns-in-Ok-clause-rolled : goal.returns-in-Ok-clause-rolled
returns-in-Ok-clause-rolled g c whole = c.in-Ok.ensures.rolled whole

pub returns-in-Err-clause-rolled : goal.returns-in-Err-clause-rolled
returns-in-Err-clause-rolled g c whole = c.in-Err.ensures.rolled whole

pub returns-in-Ok-clause-counted : goal.returns-in-Ok-clause-counted
returns-in-Ok-clause-counted g c = c.in-Ok.ensures.counted

pub returns-in-Err-clause-counted : goal.returns-in-Err-clause-counted
returns-in-Err-clause-counted g c = c.in-Err.ensures.counted
