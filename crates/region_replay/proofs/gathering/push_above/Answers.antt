use Rattle.wal_split.specs.Flushed.{flushed_of}
use Rattle.region_replay.proofs.Gathered.{above_more}
use Rattle.region_replay.proofs.gathering.push_above.Goals as goal

pub loop-cell-preserved : goal.loop-cell-preserved
loop-cell-preserved c = above_more (flushed_of c.args.flushed.now) c.args.number _ _ _ c.loop-cell.yielded c.in-Some.cell c.loop-cell.invariant c.in_ok-push_unflushed.ensures
