use Rattle.std.proofs.Common.{length}
use Rattle.log_trucks.proofs.KeptTrucks.{AreKept}
use Rattle.log_trucks.proofs.chain.Chain.keep_unflushed.Given as goal

abbrev pub invariant-loop-truck : goal.invariant-loop-truck
invariant-loop-truck l = AreKept l.accounting l.region l.fn.self l.self l.kept

abbrev pub decreases-loop-truck : goal.decreases-loop-truck
decreases-loop-truck l = length l.self
