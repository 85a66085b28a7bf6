use Rattle.std.proofs.Common.{◌≡◌, [], get_or, set, subst, sym}
use Rattle.seq_accounting.specs.Accounts.{flushed_at}
use Rattle.log_ledger.specs.Numbers.{Numbers, IsServed, AreInOrder, AreStoresFew}
use Rattle.log_ledger.specs.Counted.{IsCounted}
use Rattle.log_ledger.proofs.Flushed.{counted_kept}
use Rattle.log_ledger.proofs.Few.{few_same}
use Rattle.log_ledger.proofs.Orders.{order_kept}
use Rattle.log_ledger.proofs.ledger.Ledger.keep.Goals as goal

pub invariant_of-self : goal.invariant_of-self
invariant_of-self c =
    order_kept (record {
      drawn = c.self.inside.drawn;
      synced = c.self.inside.synced;
      stored = c.self.inside.stored;
      closed = c.self.inside.closed;
      next_store = c.self.inside.next_store;
      accounts = c.self.inside.accounts;
      chains = c.self.inside.chains;
    }) c.args.region c.self.invariant
    (subst (λ (x : Numbers). IsServed x c.args.region) (sym c.self.view_is) c.requires.served) (subst (λ (x : Numbers). get_or x.chains c.args.region [] ≡ []) (sym c.self.view_is) c.requires.none)

pub returns-clause-counted : goal.returns-clause-counted
returns-clause-counted c h counted =
    subst (λ (b : Numbers). IsCounted (record b { stored = set b.stored c.args.region (get_or b.synced c.args.region 0) }) h) (sym c.self.view_is)
    (counted_kept c.args.self.now c.args.region h (subst AreInOrder c.self.view_is c.self.invariant) c.requires.served c.requires.none counted)

pub returns-clause-few : goal.returns-clause-few
returns-clause-few c limit few =
    subst (λ (b : Numbers). AreStoresFew limit (record b { stored = set b.stored c.args.region (get_or b.synced c.args.region 0) })) (sym c.self.view_is)
    (few_same limit c.args.self.now (record c.args.self.now { stored = set c.args.self.now.stored c.args.region (get_or c.args.self.now.synced c.args.region 0) }) (λ notes is. is) (λ r f i. flushed_at c.args.self.now.accounts r f)
    (λ i. c.args.self.now.drawn) (λ i. c.args.self.now.next_store) few)
