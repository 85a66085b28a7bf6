use Rattle.std.proofs.Common.{[], ◌∷◌, ◌∙◌, arith}
use Rattle.std.specs.Arc.{arc_value}
use Rattle.cell_model.specs.Join.{joined}
use Rattle.store_compact.proofs.Halves.{one_alone, both_halves}
use Rattle.store_compact.proofs.merging.+merge_all.Goals as goal

pub returns-then-parts-eq1 : goal.returns-then-parts-eq1
returns-then-parts-eq1 t c = c.in_ok-one.ensures ∙ one_alone arc_value c.args.parts.now c.index-parts-0.result (omega (arith, c.if-parts-eq1.true)) c.index-parts-0.is

pub returns : goal.returns
returns t c =
    c.in_ok-merged.ensures.ok ∙ c.in_ok-merge.ensures ∙ (λ i. joined (c.deref.ensures i ∷ c.deref-2.ensures i ∷ []))
    ∙ both_halves arc_value _ c.args.parts.now (arc_value c.in_ok-first.first) (arc_value c.in_ok-second.second) (omega arith) c.in_ok-first.ensures c.in_ok-second.ensures
