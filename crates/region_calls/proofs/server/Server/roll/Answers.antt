use Rattle.std.proofs.Common.{sym, ap, ◌∙◌, subst}
use Rattle.pass_calls.specs.log_service.Places.{ServiceId}
use Rattle.pass_calls.specs.region_lock.Answers.{roll_answer}
use Rattle.pass_calls.specs.log_service.Turns.{HasRolledFile}
use Rattle.region_calls.proofs.Using.{roll_is, rolls_used}
use Rattle.region_calls.proofs.server.Server.roll.Goals as goal

pub returns-clause-rolls : goal.returns-clause-rolls
returns-clause-rolls g c =
    let pass = c.args.pass.now in
    let done = c.roll_in in
    rolls_used c.self.inside.service.regions (roll_answer done.result) pass.handler pass.calls pass.regions.items pass.seat done.new.seat
    (c.requires.of.count ∙ sym (ap (λ (q : ServiceId). q.regions) c.self.view_is)) c.requires.of.hands (roll_is done.result) done.ensures.rolls

pub returns-clause-rolled : goal.returns-clause-rolled
returns-clause-rolled g c whole =
    let done = c.roll_in in
    subst (λ (q : ServiceId). HasRolledFile g.D.Disk g.N.ServiceNaming q.regions done.result done.new.seat.device.knows) c.self.view_is (done.ensures.rolled whole)
