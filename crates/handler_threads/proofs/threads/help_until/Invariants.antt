use Rattle.handler_threads.specs.Working.{HasHelped}
use Rattle.handler_threads.proofs.threads.help_until.Given as goal

abbrev pub invariant-loop : goal.invariant-loop
invariant-loop g l = (goal.iterator-loop g).can_next l.iterator' × (goal.iterator-loop g).is_finite l.iterator' × HasHelped g.J.Job.is_seat g.J.Job.log_of l.job l.initial.seat l.seat
