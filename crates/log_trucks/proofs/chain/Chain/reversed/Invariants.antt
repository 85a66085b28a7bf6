use Rattle.std.proofs.Common.{◌≡◌, ◌++◌, length, reverse}
use Rattle.log_trucks.proofs.chain.Chain.reversed.Given as goal

abbrev pub invariant-loop-truck : goal.invariant-loop-truck
invariant-loop-truck l = reverse l.rest ++ l.turned ≡ reverse l.fn.self

abbrev pub decreases-loop-truck : goal.decreases-loop-truck
decreases-loop-truck l = length l.rest
