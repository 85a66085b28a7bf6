use Rattle.std.proofs.Common.{[], ◌∷◌, ◌++◌, List, subst, ◌∙◌}
use Rattle.seq_accounting.specs.Steps.{SameNumbers}
use Rattle.seq_accounting.specs.Noted.{Note, HasNoted}
use Rattle.log_ledger.specs.Numbers.{Numbers, AreInOrder}
use Rattle.log_ledger.proofs.Steps.{ClosedBy, flushed_same}
use Rattle.log_ledger.proofs.Few.{few_same}
use Rattle.log_ledger.proofs.Committed.{counted_closed}
use Rattle.log_ledger.proofs.Orders.{order_closed}
use Rattle.log_ledger.proofs.ledger.Ledger.close.Goals as goal

-- the ledger's numbers after the call
abbrev after : goal.After-close_file → Numbers
after c = record {
  drawn = c.self.inside.drawn;
  synced = c.self.inside.synced;
  stored = c.self.inside.stored;
  closed = c.self.inside.synced;
  next_store = c.self.inside.next_store;
  accounts = c.close_file.new.self;
  chains = c.self.inside.chains;
}

closed : (c : goal.After-close_file) → ClosedBy c.args.self.now (after c) c.args.file
closed c =
    let was = c.self.view_is in record {
      drawn = λ i. (was i).drawn;
      synced = λ i. (was i).synced;
      stored = λ i. (was i).stored;
      closed = λ i. (was i).synced;
      next_store = λ i. (was i).next_store;
      keeps = record {
        numbers = subst (λ (b : Numbers). SameNumbers b.accounts c.close_file.new.self) was c.close_file.ensures.numbers;
        history = subst (λ (b : Numbers). (notes : List Note) → HasNoted b.accounts notes → HasNoted c.close_file.new.self notes) was c.close_file.ensures.history;
        order = c.close_file.ensures.order;
      };
      current = c.close_file.ensures.current;
      files = c.close_file.ensures.closed ∙ (λ i. (was i).accounts.closed ++ record { file = c.args.file; highest = (was i).accounts.current } ∷ []);
      last = c.close_file.ensures.last;
      chains = λ i. (was i).chains;
    }

pub invariant_of-self : goal.invariant_of-self
invariant_of-self c = order_closed c.args.self.now (after c) c.args.file (subst AreInOrder c.self.view_is c.self.invariant) (closed c)

pub returns-clause-counted : goal.returns-clause-counted
returns-clause-counted c h counted none = counted_closed c.args.self.now (after c) c.args.file h (subst AreInOrder c.self.view_is c.self.invariant) (closed c) counted none

pub returns-clause-few : goal.returns-clause-few
returns-clause-few c limit few =
    let s = closed c in few_same limit c.args.self.now (after c) s.keeps.history (flushed_same c.args.self.now.accounts c.close_file.new.self s.keeps.numbers.flushed) s.drawn s.next_store few

pub returns-clause-same : goal.returns-clause-same
returns-clause-same c =
    let s = closed c in record {
      drawn = s.drawn;
      synced = s.synced;
      stored = s.stored;
      closed = λ i. c.args.self.now.closed;
      next_store = s.next_store;
      flushed = flushed_same c.args.self.now.accounts c.close_file.new.self s.keeps.numbers.flushed;
    }
