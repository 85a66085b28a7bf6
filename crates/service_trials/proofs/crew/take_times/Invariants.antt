use Rattle.service_trials.specs.Crew.{IsOf}
use Rattle.service_trials.proofs.crew.take_times.Given as goal

abbrev pub invariant-loop : goal.invariant-loop
invariant-loop g l = IsOf l.service l.member
