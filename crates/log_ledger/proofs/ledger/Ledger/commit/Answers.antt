use Rattle.std.proofs.Common.{subst, sym}
use Rattle.seq_accounting.specs.Accounts.{flushed_at}
use Rattle.log_ledger.specs.Numbers.{Numbers, AreInOrder, AreStoresFew}
use Rattle.log_ledger.specs.Counted.{IsCounted}
use Rattle.log_ledger.specs.History.{committed_in}
use Rattle.log_ledger.proofs.Committed.{counted_committed}
use Rattle.log_ledger.proofs.Few.{few_same}
use Rattle.log_ledger.proofs.Orders.{order_committed}
use Rattle.log_ledger.proofs.ledger.Ledger.commit.Goals as goal

pub invariant_of-self : goal.invariant_of-self
invariant_of-self c = order_committed (record {
  drawn = c.self.inside.drawn;
  synced = c.self.inside.synced;
  stored = c.self.inside.stored;
  closed = c.self.inside.closed;
  next_store = c.self.inside.next_store;
  accounts = c.self.inside.accounts;
  chains = c.self.inside.chains;
}) c.self.invariant

pub returns-clause-counted : goal.returns-clause-counted
returns-clause-counted c h counted =
    subst (λ (b : Numbers). IsCounted (record b { synced = b.drawn }) (committed_in h)) (sym c.self.view_is)
    (counted_committed c.args.self.now h (subst AreInOrder c.self.view_is c.self.invariant) counted)

pub returns-clause-few : goal.returns-clause-few
returns-clause-few c limit few =
    subst (λ (b : Numbers). AreStoresFew limit (record b { synced = b.drawn })) (sym c.self.view_is)
    (few_same limit c.args.self.now (record c.args.self.now { synced = c.args.self.now.drawn }) (λ notes is. is) (λ r f i. flushed_at c.args.self.now.accounts r f) (λ i. c.args.self.now.drawn) (λ i. c.args.self.now.next_store) few)

pub returns-clause-order : goal.returns-clause-order
returns-clause-order c = subst AreInOrder c.self.view_is c.self.invariant
