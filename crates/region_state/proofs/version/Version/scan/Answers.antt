use Rattle.std.proofs.Common.{◌≡◌, List, filter, ap, ◌∙◌, subst}
use Rattle.cell_model.specs.Order.{Content, cells_of, NumberedCell}
use Rattle.cell_model.specs.Join.{joined}
use Rattle.region_model.specs.Journal.{visible, is_in_range}
use Rattle.region_model.specs.Lines.{edits_in}
use Rattle.region_state.specs.Versions.{Shown}
use Rattle.region_state.proofs.StateLaws.{shown_is_visible}
use Rattle.region_state.proofs.version.Version.scan.Goals as goal

pub returns : goal.returns
returns c region =
    let from = c.args.from.now in
    let to = c.args.to.now in
    let walk : List NumberedCell = c.«in_ok-walk».walk in
    subst (λ (s : Shown). walk ≡ visible s.base.content (edits_in region s.cut) s.point from to) c.self.view_is
    (c.«in_ok-walk».ensures ∙ ap (λ (ms : List Content). filter (is_in_range from to) (cells_of (joined ms))) c.as_slice.ensures.parts
    ∙ ap (λ (m : Content). filter (is_in_range from to) (cells_of m)) c.self.invariant.cells ∙ shown_is_visible region from to _ _ c.self.invariant)
