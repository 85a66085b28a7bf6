use Rattle.std.proofs.Common.{List, filter, take, ap, ◌∙◌, Option}
use Rattle.cell_model.specs.Order.{Content, NumberedCell, cells_of}
use Rattle.cell_model.specs.Join.{joined}
use Rattle.region_model.specs.Journal.{is_in_range}
use Rattle.mem_segments.specs.Walk.{to_come, last_given}
use Rattle.mem_segments.proofs.Resuming.{page_is, rising_range}
use Rattle.mem_segments.proofs.layers.SegmentList.page.Goals as goal

pub returns-clause-ok : goal.returns-clause-ok
returns-clause-ok c =
    let from = c.args.from.now in
    let to = c.args.to.now in
    let count = c.args.count in
    let walk : List NumberedCell = c.in_ok-walk.walk in
    let all : List NumberedCell = filter (is_in_range from to) (cells_of (joined c.args.self.now)) in
    page_is count c.args.cursor.now c.past.result all walk c.in_ok-page.page.cells c.next_page.new.walk c.in_ok-page.page.done (rising_range from to (joined c.args.self.now))
    (c.in_ok-walk.ensures ∙ ap (λ (ms : List Content). to_come c.args.cursor.now (filter (is_in_range from to) (cells_of (joined ms)))) c.as_slice.ensures.parts)
    c.in_ok-page.ensures.cells c.in_ok-page.ensures.rest
    (c.past.ensures ∙ c.in_ok-page.ensures.last ∙ ap (λ (o : Option NumberedCell). last_given o (take count walk)) c.last.ensures) c.in_ok-page.ensures.done
