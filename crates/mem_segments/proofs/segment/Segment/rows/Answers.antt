use Rattle.std.proofs.Common.{sym, ap, ◌∙◌}
use Rattle.cell_model.specs.Order.{cells_of}
use Rattle.cell_model.proofs.MergeLaws.{cells_of-content_of}
use Rattle.mem_segments.proofs.segment.Segment.rows.Goals as goal

pub returns : goal.returns
returns c = c.as_slice.ensures.value ∙ sym (cells_of-content_of c.self.inside.rows.items c.self.invariant) ∙ ap cells_of c.self.view_is
