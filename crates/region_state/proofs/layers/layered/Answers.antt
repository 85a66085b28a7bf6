use Rattle.std.proofs.Common.{◌≡◌, [], ◌∷◌, ◌++◌, ap, sym, ◌∙◌}
use Rattle.std.specs.Arc.{arc_value}
use Rattle.std.specs.FinMap.{len}
use Rattle.cell_model.specs.Order.{Content}
use Rattle.cell_model.specs.Join.{joined}
use Rattle.region_state.proofs.LayerLaws.{joined_empty, joined_more}
use Rattle.region_state.proofs.layers.layered.Goals as goal

pub returns-then-len-eq0 : goal.returns-then-len-eq0
returns-then-len-eq0 c =
    let none : len (arc_value c.args.newer.now) ≡ 0 = ap (λ (m : Content). len m) (sym c.deref.ensures) ∙ sym c.len.ensures ∙ c.«if-len-eq0».true in
    ap joined c.«in_ok-same».ensures ∙ sym (joined_empty (joined c.args.parts.now) (arc_value c.args.newer.now) none)

pub returns : goal.returns
returns c =
    c.«in_ok-all».ensures ∙ ap (λ (m : Content). joined (c.args.parts.now ++ m ∷ [])) c.«in_ok-try_clone».ensures ∙ joined_more c.args.parts.now (arc_value c.args.newer.now)
