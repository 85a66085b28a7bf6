use Rattle.std.proofs.Common.{sym, subst}
use Rattle.cell_model.specs.Merge.{IsRising}
use Rattle.mem_segments.proofs.Resuming.{rising_range}
use Rattle.mem_segments.proofs.merge_iter.rests_of.Goals as goal

pub behind-requires : goal.behind-requires
behind-requires c = subst IsRising (sym c.of.ensures) (rising_range c.args.from.now c.args.to.now c.deref.result.now)
