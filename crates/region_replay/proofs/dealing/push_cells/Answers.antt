use Rattle.region_replay.proofs.Gathered.{pushed_more}
use Rattle.region_replay.proofs.dealing.push_cells.Goals as goal

pub loop-pair-preserved : goal.loop-pair-preserved
loop-pair-preserved c = pushed_more c.args.cells.now c.loop-pair.cells c.push.new.self c.loop-pair.yielded c.in-Some.pair c.loop-pair.invariant c.in_ok-push.ensures.ok
