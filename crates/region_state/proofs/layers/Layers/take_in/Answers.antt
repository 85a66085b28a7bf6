use Rattle.std.proofs.Common.{[], ◌∷◌, ap, sym, ◌∙◌, rules}
use Rattle.std.specs.Arc.{arc_value}
use Rattle.cell_model.specs.Order.{Content}
use Rattle.cell_model.specs.Join.{joined}
use Rattle.region_state.specs.Layers.{Layered, all_of}
use Rattle.region_state.proofs.LayerLaws.{takes_not, takes_done}
use Rattle.region_state.proofs.layers.Layers.take_in.Goals as goal

pub returns-then-not-done-clause-ok : goal.returns-then-not-done-clause-ok
returns-then-not-done-clause-ok c =
    takes_not c.args.done c.args.self.now _ c.drop_first.ensures.rest.0 (search rules)
    (sym (ap (λ (l : Layered). l.waiting) c.self.view_is) ∙ c.drop_first.ensures.rest.1) (ap (λ (l : Layered). l.merged) c.self.view_is)

pub returns-clause-ok : goal.returns-clause-ok
returns-clause-ok c =
    let first : Content = arc_value c.in-Some.first in
    takes_done c.args.done c.args.self.now _ first (search rules)
    (sym (ap (λ (l : Layered). l.waiting) c.self.view_is) ∙ sym c.in_ok-share_first.ensures.same ∙ ap (λ o. all_of arc_value o c.share_first.new.waiting.items) c.in-Some.is)
    (c.in_ok-self-inside.ensures ∙ (λ i. joined (ap (λ (l : Layered). l.merged) c.self.view_is i ∷ first ∷ [])))
