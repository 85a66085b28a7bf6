use Rattle.std.proofs.Common.{List, filter, ap, ◌∙◌, subst}
use Rattle.cell_model.specs.Order.{Content, cells_of, NumberedCell}
use Rattle.mem_segments.specs.Walk.{to_come, IsPage}
use Rattle.region_model.specs.Journal.{is_in_range}
use Rattle.region_state.specs.Versions.{Shown, seen_in}
use Rattle.region_state.proofs.StateLaws.{shown_is_visible}
use Rattle.region_state.proofs.version.Version.scan_page.Goals as goal

pub returns-clause-ok : goal.returns-clause-ok
returns-clause-ok c region =
    let from = c.args.from.now in
    let to = c.args.to.now in
    let page = c.in_ok-page.page in
    let before = c.args.cursor.now in
    let after = c.page.new.cursor in
    let seen = ap (λ (m : Content). filter (is_in_range from to) (cells_of m)) c.self.invariant.cells ∙ shown_is_visible region from to _ _ c.self.invariant in
    subst (λ (s : Shown). IsPage c.args.count page.cells page.done (to_come before (seen_in region s from to)) (to_come after (seen_in region s from to))) c.self.view_is
    (subst (λ (xs : List NumberedCell). IsPage c.args.count page.cells page.done (to_come before xs) (to_come after xs)) seen c.in_ok-page.ensures.ok)
