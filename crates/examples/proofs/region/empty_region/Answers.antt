use Rattle.std.proofs.Common.{◌≡◌, None, sym, ap, ◌∙◌}
use Rattle.std.specs.FinMap.{get, get-empty}
use Rattle.cell_model.specs.Order.{Content, version_cmp}
use Rattle.examples.proofs.region.empty_region.Goals as goal

-- the base has no version, so none numbered above its last number
pub new-requires-3-clause-upto : goal.new-requires-3-clause-upto
new-requires-3-clause-upto c v p there =
    let none : get c.«in_ok-new».field-0.value v ≡ None = ap (λ (m : Content). get m v) (c.«in_ok-new».ensures.ok ∙ c.new.ensures) ∙ get-empty version_cmp v in
    absurd (cc (sym none ∙ there))
