use Rattle.region_replay.proofs.Gathered.{stores_more}
use Rattle.region_replay.proofs.alone.all_cells.Goals as goal

pub loop-store-preserved : goal.loop-store-preserved
loop-store-preserved c = stores_more c.loop-store.cells c.append_cells.new.cells c.loop-store.yielded c.in-Some.store c.loop-store.invariant c.in_ok-append_cells.ensures
