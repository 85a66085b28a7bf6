use Rattle.std.proofs.Common.{◌≡◌, ◌-◌, ◌≤◌, length}
use Rattle.handler_threads.specs.log_service.Places.{ServiceId}
use Rattle.handler_threads.specs.region_calls.Deals.{passes_out, passes_back, ArePassesOf}
use Rattle.group_servers.specs.Starting.{AreUnused}
use Rattle.group_servers.proofs.letting.all_back.Given as goal

abbrev pub invariant-dealing : goal.invariant-dealing
invariant-dealing g l = record {
  few : passes_out l.passes ≤ g.N.LockNaming.handlers;
  back : length (passes_back l.passes) ≡ passes_out l.passes;
  unused : AreUnused (passes_back l.passes);
  of : (place : ServiceId) → ArePassesOf place g.N.LockNaming.handlers l.fn.passes → ArePassesOf place g.N.LockNaming.handlers l.passes;
}

abbrev pub decreases-dealing : goal.decreases-dealing
decreases-dealing g l = g.N.LockNaming.handlers - passes_out l.passes
