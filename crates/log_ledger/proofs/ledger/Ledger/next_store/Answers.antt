use Rattle.std.proofs.Common.{◌^◌}
use Rattle.log_ledger.proofs.Few.{few_are_few}
use Rattle.log_ledger.proofs.ledger.Ledger.next_store.Goals as goal

pub returns-clause-bound : goal.returns-clause-bound
returns-clause-bound c = few_are_few (2 ^ 63) (record {
  drawn = c.self.inside.drawn;
  synced = c.self.inside.synced;
  stored = c.self.inside.stored;
  closed = c.self.inside.closed;
  next_store = c.self.inside.next_store;
  accounts = c.self.inside.accounts;
  chains = c.self.inside.chains;
}) c.args.region c.self.invariant.few (c.self.invariant.regions c.args.region).drawn
