use Rattle.std.proofs.Common.{ap, ◌∙◌}
use Rattle.cell_model.specs.Merge.{content_of}
use Rattle.cell_model.proofs.MergeLaws.{content-none}
use Rattle.mem_segments.proofs.segment.Segment.new.Goals as goal

pub returns : goal.returns
returns c = ap content_of c.new.ensures.items ∙ content-none
