use Rattle.std.proofs.Common.{ap, arith}
use Rattle.pass_calls.specs.log_service.Places.{ServiceId}
use Rattle.server_model.specs.Pass.{Naming}
use Rattle.region_calls.proofs.server.Server.place_of.Goals as goal

pub returns-clause-few : goal.returns-clause-few
returns-clause-few g c = omega (arith, c.requires.region.1, ap (λ (n : Naming). n.regions) c.self.invariant.0.named, c.self.invariant.0.all, ap (λ (q : ServiceId). q.regions) c.self.view_is)

pub returns-clause-bases : goal.returns-clause-bases
returns-clause-bases g c = ap (λ (n : Naming). n.bases) c.self.invariant.0.named

pub returns-clause-flushes : goal.returns-clause-flushes
returns-clause-flushes g c = ap (λ (n : Naming). n.flushes) c.self.invariant.0.named
