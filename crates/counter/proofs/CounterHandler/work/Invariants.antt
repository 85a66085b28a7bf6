use Rattle.std.proofs.Common.{◌≡◌}
use Rattle.counter.proofs.CounterHandler.work.Given as goal

abbrev pub invariant-loop : goal.invariant-loop
invariant-loop g l = g.S.Session.is_open l.at × (g.S.Session.setting l.at ≡ g.S.Session.setting l.initial.at)
