use Rattle.std.proofs.Common.{None, ◌∙◌}
use Rattle.std.specs.Arc.{arc_value}
use Rattle.mem_segments.proofs.Resuming.{walk_comes, all_come}
use Rattle.mem_segments.proofs.merge_iter.MergeIter.new.Goals as goal

pub returns : goal.returns
returns c = walk_comes arc_value None c.args.from.now c.args.to.now c.args.parts.now c.in_ok-rests.rests.items c.in_ok-rests.ensures ∙ all_come _
