use Rattle.service_trials.specs.Crew.{IsOf}
use Rattle.service_trials.proofs.crew.take_all.Given as goal

abbrev pub invariant-loop-row : goal.invariant-loop-row
invariant-loop-row g l = IsOf l.service l.member
