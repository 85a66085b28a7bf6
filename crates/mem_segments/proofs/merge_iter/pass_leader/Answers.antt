use Rattle.std.proofs.Common.{List, drop, sym, ap, ◌∙◌, slice_set}
use Rattle.cell_model.specs.Order.{NumberedCell}
use Rattle.mem_segments.proofs.Leading.{alone_goes}
use Rattle.mem_segments.proofs.merge_iter.pass_leader.Goals as goal

pub returns-then-leader : goal.returns-then-leader
returns-then-leader c =
    ap (slice_set c.args.rests.now c.args.leader.place) c.skip.ensures
    ∙ ap (λ (xs : List NumberedCell). slice_set c.args.rests.now c.args.leader.place (drop 1 xs)) (sym c.index-rests-leader.is)
    ∙ alone_goes c.args.rests.now c.args.leader c.index-rests-leader.result c.requires c.if-leader.true c.index-rests-leader.is
