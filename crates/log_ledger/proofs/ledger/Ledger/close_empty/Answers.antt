use Rattle.std.proofs.Common.{subst, sym}
use Rattle.seq_accounting.specs.Accounts.{flushed_at}
use Rattle.log_ledger.specs.Numbers.{Numbers, AreStoresFew}
use Rattle.log_ledger.specs.Counted.{IsCounted}
use Rattle.log_ledger.proofs.Committed.{counted_empty}
use Rattle.log_ledger.proofs.Few.{few_same}
use Rattle.log_ledger.proofs.Orders.{order_empty}
use Rattle.log_ledger.proofs.ledger.Ledger.close_empty.Goals as goal

pub invariant_of-self : goal.invariant_of-self
invariant_of-self c = order_empty (record {
  drawn = c.self.inside.drawn;
  synced = c.self.inside.synced;
  stored = c.self.inside.stored;
  closed = c.self.inside.closed;
  next_store = c.self.inside.next_store;
  accounts = c.self.inside.accounts;
  chains = c.self.inside.chains;
}) c.self.invariant

pub returns-clause-counted : goal.returns-clause-counted
returns-clause-counted c h counted none empty =
    subst (λ (b : Numbers). IsCounted (record b { closed = b.synced }) h) (sym c.self.view_is) (counted_empty c.args.self.now h counted none empty)

pub returns-clause-few : goal.returns-clause-few
returns-clause-few c limit few =
    subst (λ (b : Numbers). AreStoresFew limit (record b { closed = b.synced })) (sym c.self.view_is)
    (few_same limit c.args.self.now (record c.args.self.now { closed = c.args.self.now.synced }) (λ notes is. is) (λ r f i. flushed_at c.args.self.now.accounts r f) (λ i. c.args.self.now.drawn) (λ i. c.args.self.now.next_store) few)
