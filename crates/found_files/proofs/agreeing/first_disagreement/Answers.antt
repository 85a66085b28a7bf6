use Rattle.std.proofs.Common.{arith}
use Rattle.found_files.proofs.Agreement.{at_first, goes_on}
use Rattle.found_files.proofs.agreeing.first_disagreement.Goals as goal

pub loop-at-init : goal.loop-at-init
loop-at-init c = at_first c.args.entries.now

pub loop-at-preserved : goal.loop-at-preserved
loop-at-preserved c = goes_on c.args.entries.now c.loop-at.first c.loop-at.at c.requires (omega (arith, c.loop-at-test.true)) c.loop-at.invariant c.in-Some.next c.in-Some.ensures
