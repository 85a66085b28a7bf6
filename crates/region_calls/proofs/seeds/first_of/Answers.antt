use Rattle.std.proofs.Common.{◌-◌, List, take, ap, ◌∙◌}
use Rattle.std.specs.Arc.{arc_value}
use Rattle.region_model.specs.Lines.{Line}
use Rattle.region_state.specs.States.{State}
use Rattle.region_state.specs.Versions.{Shown}
use Rattle.region_calls.proofs.Sown.{take_none}
use Rattle.region_calls.proofs.seeds.first_of.Goals as goal

pub returns-clause-state : goal.returns-clause-state
returns-clause-state c =
    let same = c.in_ok-version.ensures.same in
    let state = c.in_ok-state.ensures in
    (ap (λ (s : State). s.region) same ∙ state.region.0, ap (λ (s : State). s.base) same ∙ state.region.1, ap (λ (s : State). s.lines) same ∙ state.lines)

pub returns-clause-version : goal.returns-clause-version
returns-clause-version c =
    let count = (arc_value c.in_ok-version.version).point - c.in_ok-state.state.base.last in (
      ap (λ (v : Shown). v.base) c.in_ok-version.ensures.cut ∙ c.in_ok-state.ensures.region.1,
      ap (λ (v : Shown). v.cut) c.in_ok-version.ensures.cut ∙ ap (λ (l : List Line). take count l) c.in_ok-state.ensures.lines ∙ take_none count,
    )
