use Rattle.wal_split.specs.Flushed.{flushed_of}
use Rattle.region_replay.proofs.Gathered.{entries_more}
use Rattle.region_replay.proofs.gathering.entry_cells.Goals as goal

pub loop-entry-preserved : goal.loop-entry-preserved
loop-entry-preserved c = entries_more (flushed_of c.args.flushed.now) _ _ c.loop-entry.yielded c.in-Some.entry c.loop-entry.invariant c.in_ok-add_cells.ensures
