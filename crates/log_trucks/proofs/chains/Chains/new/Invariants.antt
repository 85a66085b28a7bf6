use Rattle.std.proofs.Common.{◌≡◌, [], replicate}
use Rattle.log_trucks.proofs.chains.Chains.new.Given as goal

abbrev pub invariant-loop : goal.invariant-loop
invariant-loop l = l.chains.items ≡ replicate l.counter []
