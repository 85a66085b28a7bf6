use Rattle.std.proofs.Common.{arith}
use Rattle.log_ledger.proofs.ledger.Ledger.flushed.Goals as goal

pub returns-clause-limit : goal.returns-clause-limit
returns-clause-limit c = let is = c.self.invariant.regions c.args.region in omega (arith, c.flushed.ensures, is.durable c.args.family.now, is.synced, is.drawn)
