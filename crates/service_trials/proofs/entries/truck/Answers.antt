use Rattle.std.proofs.Common.{rules, ◌≡◌, subst}
use Rattle.log_trucks.specs.Held.{Haul, held_of}
use Rattle.log_service.specs.Trucks.{IsSpelled}
use Rattle.service_trials.proofs.entries.truck.Goals as goal

pub returns-clause-spelled : goal.returns-clause-spelled
returns-clause-spelled c =
    let same : c.in_ok-load.load ≡ c.in_ok-truck.truck.value = search rules in
    subst (λ (h : Haul). IsSpelled (held_of h)) same c.in_ok-load.ensures.spelled
