use Rattle.std.proofs.Common.{◌≡◌, sym, ap, ◌∙◌, arith}
use Rattle.crossbeam_queue.specs.Passes.{view}
use Rattle.log_device.specs.Whole.{numbers_of}
use Rattle.log_service.specs.Places.{ServiceId}
use Rattle.log_service.proofs.Sees.{saw_committed}
use Rattle.log_service.proofs.service.LogService.commit_and_raise.Goals as goal

pub returns-in-Committed-clause-sees : goal.returns-in-Committed-clause-sees
returns-in-Committed-clause-sees g c n is =
    let ware = c.commit_one-commit.new.self in
    let unbroken = (c.in-Committed.ensures.committed n (cc is)).3 in
    let regions = ap (λ (p : ServiceId). p.regions) c.self.view_is in
    let n_is : ware.regions ≡ c.args.self.now.regions = ware.all.0 ∙ (sym c.self.invariant.6 ∙ regions) in
    saw_committed g.N.ServiceNaming.lasts ware.regions (numbers_of ware.device) (view ware.consumer.pass).popped ware.all.0 (ware.synced unbroken) (ware.drawn unbroken) c.raise_all.new.seat.knows
    (λ i low. c.raise_all.ensures.all i (omega (arith, low, n_is, regions)))
