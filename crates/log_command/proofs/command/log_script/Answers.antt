use Rattle.disk_images.specs.Calls.{Rose}
use Rattle.command_base.proofs.Endings.{goes_on, rose_from}
use Rattle.log_command.proofs.Ending.{ends_from, refused_ends, looked_only, moments_from}
use Rattle.log_command.proofs.command.log_script.Goals as goal

pub returns-in-Err-clause-ends : goal.returns-in-Err-clause-ends
returns-in-Err-clause-ends g c told told_sink text says =
    refused_ends _ c.in-Err.status text _ _ _ _ _ _ c.refuse.ensures.status c.in-Err.ensures.refused (c.check_empty.ensures.looks told) (c.refuse.ensures.prints told_sink)

pub returns-in-Err-clause-any_moment : goal.returns-in-Err-clause-any_moment
returns-in-Err-clause-any_moment g c told text says = looked_only text (g.D.Disk.view c.args.disk.now) (g.D.Disk.view c.check_empty.new.disk) (c.check_empty.ensures.looks told)

pub returns-in-Ok-clause-ends : goal.returns-in-Ok-clause-ends
returns-in-Ok-clause-ends g c told told_sink text says =
    ends_from c.log_ready.result text (g.K.Sink.taken c.args.out.now) (g.K.Sink.taken c.log_ready.new.out)
    (g.D.Disk.view c.args.disk.now) (g.D.Disk.view c.check_empty.new.disk) (g.D.Disk.view c.log_ready.new.disk)
    (Rose (g.D.Disk.faults c.check_empty.new.disk) (g.D.Disk.faults c.log_ready.new.disk)) (Rose (g.D.Disk.faults c.args.disk.now) (g.D.Disk.faults c.log_ready.new.disk))
    (Rose (g.K.Sink.faults c.args.out.now) (g.K.Sink.faults c.log_ready.new.out))
    c.log_ready.ensures.status (c.check_empty.ensures.looks told)
    (λ rose. rose_from (g.D.Disk.faults c.args.disk.now) (g.D.Disk.faults c.check_empty.new.disk) (g.D.Disk.faults c.log_ready.new.disk) c.check_empty.ensures.cause.later rose) (c.log_ready.ensures.ends told told_sink text c.args.script.now says c.in-Ok.ensures.frames)

pub returns-in-Ok-clause-moments : goal.returns-in-Ok-clause-moments
returns-in-Ok-clause-moments g c told = goes_on _ _ _ ∣ (1, (c.check_empty.ensures.looks told).time) ∣₁ (c.log_ready.ensures.moments told)

pub returns-in-Ok-clause-any_moment : goal.returns-in-Ok-clause-any_moment
returns-in-Ok-clause-any_moment g c told text says =
    moments_from text (g.D.Disk.view c.args.disk.now) (g.D.Disk.view c.check_empty.new.disk) (g.D.Disk.view c.log_ready.new.disk) (c.check_empty.ensures.looks told) (c.log_ready.ensures.any_moment told text c.args.script.now says c.in-Ok.ensures.frames)

pub returns-in-Err-make_ready-clause-ends : goal.returns-in-Err-make_ready-clause-ends
returns-in-Err-make_ready-clause-ends g c told told_sink text says =
    refused_ends _ _ text _ _ _ _ _ _ c.refuse-in-Err-make_ready.ensures.status tt (c.check_empty.ensures.looks told) (c.refuse-in-Err-make_ready.ensures.prints told_sink)

pub returns-in-Err-make_ready-clause-any_moment : goal.returns-in-Err-make_ready-clause-any_moment
returns-in-Err-make_ready-clause-any_moment g c told text says = looked_only text (g.D.Disk.view c.args.disk.now) (g.D.Disk.view c.check_empty.new.disk) (c.check_empty.ensures.looks told)
