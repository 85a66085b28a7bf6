use Rattle.std.proofs.Common.{◌≡◌, subst}
use Rattle.std.specs.List.{AllPass}
use Rattle.region_model.specs.Lines.{last_in, is_completed_line}
use Rattle.region_state.specs.Versions.{Shown}
use Rattle.region_state.proofs.version.Version.point.Goals as goal

pub returns-clause-end : goal.returns-clause-end
returns-clause-end c = subst (λ (s : Shown). c.self.inside.point ≡ last_in s.base s.cut) c.self.view_is c.self.invariant.point

pub returns-clause-completed : goal.returns-clause-completed
returns-clause-completed c = subst (λ (s : Shown). AllPass is_completed_line s.cut) c.self.view_is c.self.invariant.completed
