use Rattle.std.proofs.Common.{[], ◌∷◌, ap, ◌∙◌}
use Rattle.std.specs.Arc.{arc_value}
use Rattle.cell_model.specs.Join.{joined}
use Rattle.region_state.proofs.LayerLaws.{joined_first}
use Rattle.region_state.proofs.layers.Layers.new.Goals as goal

pub returns : goal.returns
returns c =
    (c.«in_ok-layered».ensures ∙ (λ i. joined (joined (c.new.ensures i) ∷ arc_value c.base.inside.cells ∷ [])) ∙ joined_first (arc_value c.base.inside.cells) ∙ ap (λ b. b.content) c.base.view_is, c.«new-2».ensures.items)
