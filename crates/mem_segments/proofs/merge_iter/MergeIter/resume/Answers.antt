use Rattle.std.proofs.Common.{◌∙◌, ap, Option, List, filter, map}
use Rattle.std.specs.Arc.{arc_value}
use Rattle.cell_model.specs.Order.{NumberedCell, cells_of}
use Rattle.cell_model.specs.Join.{joined}
use Rattle.region_model.specs.Journal.{is_in_range}
use Rattle.mem_segments.specs.Walk.{to_come}
use Rattle.mem_segments.proofs.Resuming.{walk_comes}
use Rattle.mem_segments.proofs.merge_iter.MergeIter.resume.Goals as goal

pub returns : goal.returns
returns c =
    let all : List NumberedCell = filter (is_in_range c.args.from.now c.args.to.now) (cells_of (joined (map arc_value c.args.parts.now))) in
    walk_comes arc_value _ c.args.from.now c.args.to.now c.args.parts.now c.in_ok-rests.rests.items c.in_ok-rests.ensures
    ∙ ap (λ (last : Option NumberedCell). to_come last all) c.last.ensures
