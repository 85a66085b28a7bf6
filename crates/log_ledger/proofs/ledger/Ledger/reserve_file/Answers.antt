use Rattle.std.proofs.Common.{List, subst, sym}
use Rattle.seq_accounting.specs.Accounts.{Accounts, flushed_at}
use Rattle.seq_accounting.specs.Noted.{Note, HasNoted}
use Rattle.seq_accounting.specs.Order.{IsInOrder}
use Rattle.log_ledger.specs.Numbers.{Numbers, AreInOrder, AreStoresFew}
use Rattle.log_ledger.specs.Counted.{IsCounted}
use Rattle.log_ledger.proofs.DrawnSums.{drawn_small}
use Rattle.log_ledger.proofs.Few.{few_same}
use Rattle.log_ledger.proofs.Committed.{counted_room}
use Rattle.log_ledger.proofs.Orders.{order_room}
use Rattle.log_ledger.proofs.ledger.Ledger.reserve_file.Goals as goal

pub invariant_of-self : goal.invariant_of-self
invariant_of-self c =
    let b : Numbers = record {
      drawn = c.self.inside.drawn;
      synced = c.self.inside.synced;
      stored = c.self.inside.stored;
      closed = c.self.inside.closed;
      next_store = c.self.inside.next_store;
      accounts = c.self.inside.accounts;
      chains = c.self.inside.chains;
    } in
    let history : (notes : List Note) → HasNoted b.accounts notes → HasNoted (record b.accounts { room = c.reserve_file.new.self.room }) notes =
    subst (λ (a : Accounts). (notes : List Note) → HasNoted c.self.inside.accounts notes → HasNoted a notes) c.reserve_file.ensures.same c.reserve_file.ensures.history in
    subst (λ (a : Accounts). AreInOrder (record b { accounts = a })) (sym c.reserve_file.ensures.same)
    (order_room b c.reserve_file.new.self.room c.self.invariant (subst IsInOrder c.reserve_file.ensures.same c.reserve_file.ensures.order) history)

pub returns-clause-counted : goal.returns-clause-counted
returns-clause-counted c h counted =
    let b : Numbers = record {
      drawn = c.self.inside.drawn;
      synced = c.self.inside.synced;
      stored = c.self.inside.stored;
      closed = c.self.inside.closed;
      next_store = c.self.inside.next_store;
      accounts = c.self.inside.accounts;
      chains = c.self.inside.chains;
    } in
    let history : (notes : List Note) → HasNoted b.accounts notes → HasNoted (record b.accounts { room = c.reserve_file.new.self.room }) notes =
    subst (λ (a : Accounts). (notes : List Note) → HasNoted c.self.inside.accounts notes → HasNoted a notes) c.reserve_file.ensures.same c.reserve_file.ensures.history in
    subst (λ (a : Accounts). IsCounted (record b { accounts = a }) h) (sym c.reserve_file.ensures.same)
    (counted_room b c.reserve_file.new.self.room h history (subst (λ (x : Numbers). IsCounted x h) (sym c.self.view_is) counted))

pub returns-clause-few : goal.returns-clause-few
returns-clause-few c limit few =
    let b : Numbers = record {
      drawn = c.self.inside.drawn;
      synced = c.self.inside.synced;
      stored = c.self.inside.stored;
      closed = c.self.inside.closed;
      next_store = c.self.inside.next_store;
      accounts = c.self.inside.accounts;
      chains = c.self.inside.chains;
    } in
    let history : (notes : List Note) → HasNoted b.accounts notes → HasNoted (record b.accounts { room = c.reserve_file.new.self.room }) notes =
    subst (λ (a : Accounts). (notes : List Note) → HasNoted c.self.inside.accounts notes → HasNoted a notes) c.reserve_file.ensures.same c.reserve_file.ensures.history in
    subst (λ (a : Accounts). AreStoresFew limit (record b { accounts = a })) (sym c.reserve_file.ensures.same)
    (few_same limit b (record b { accounts = record b.accounts { room = c.reserve_file.new.self.room } }) history (λ r f i. flushed_at c.self.inside.accounts r f) (λ i. c.self.inside.drawn) (λ i. c.self.inside.next_store)
    (subst (AreStoresFew limit) (sym c.self.view_is) few))

pub returns-clause-small : goal.returns-clause-small
returns-clause-small c = drawn_small c.args.self.now (subst AreInOrder c.self.view_is c.self.invariant)
