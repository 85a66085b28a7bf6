use Rattle.std.proofs.Common.{◌≡◌, ◌+◌, List, length, Contains, subst, ap, ◌∙◌, arith}
use Rattle.seq_accounting.specs.Accounts.{ClosedFile, unflushed}
use Rattle.seq_accounting.specs.Steps.{SameNumbers}
use Rattle.seq_accounting.specs.Noted.{Note, HasNoted}
use Rattle.log_ledger.specs.Numbers.{Numbers, AreInOrder}
use Rattle.log_ledger.proofs.Steps.{ForgottenBy, flushed_same}
use Rattle.log_ledger.proofs.Few.{few_same}
use Rattle.log_ledger.proofs.Logs.{counted_length, IsTested}
use Rattle.log_ledger.proofs.Flushed.{counted_forgotten}
use Rattle.log_ledger.proofs.Orders.{order_forgotten}
use Rattle.log_ledger.proofs.ledger.Ledger.forget_flushed.Goals as goal

-- the ledger's numbers after the call
abbrev after : goal.After-forget_lower → Numbers
after c = record {
  drawn = c.self.inside.drawn;
  synced = c.self.inside.synced;
  stored = c.self.inside.stored;
  closed = c.self.inside.closed;
  next_store = c.self.inside.next_store;
  accounts = c.forget_lower.new.self;
  chains = c.self.inside.chains;
}

forgotten : (c : goal.After-forget_lower) → ForgottenBy c.args.self.now (after c)
forgotten c =
    let was = c.self.view_is in record {
      drawn = λ i. (was i).drawn;
      synced = λ i. (was i).synced;
      stored = λ i. (was i).stored;
      closed = λ i. (was i).closed;
      next_store = λ i. (was i).next_store;
      keeps = record {
        numbers = subst (λ (b : Numbers). SameNumbers b.accounts c.forget_lower.new.self) was c.forget_lower.ensures.numbers;
        history = subst (λ (b : Numbers). (notes : List Note) → HasNoted b.accounts notes → HasNoted c.forget_lower.new.self notes) was c.forget_lower.ensures.history;
        order = c.forget_lower.ensures.order;
      };
      current = c.forget_lower.ensures.current ∙ (λ i. (was i).accounts.current);
      files = c.forget_lower.ensures.closed ∙ (λ i. unflushed (was i).accounts);
      last = c.forget_lower.ensures.last ∙ (λ i. (was i).accounts.last);
      chains = λ i. (was i).chains;
    }

fewer : (c : goal.After-forget_lower) → length c.forget_lower.new.self.closed + c.forget_lower.result ≡ length c.args.self.now.accounts.closed
fewer c = c.forget_lower.ensures.count ∙ ap (λ (b : Numbers). length b.accounts.closed) c.self.view_is

pub invariant_of-self : goal.invariant_of-self
invariant_of-self c = order_forgotten c.args.self.now (after c) (subst AreInOrder c.self.view_is c.self.invariant) (forgotten c)

pub returns-clause-counted : goal.returns-clause-counted
returns-clause-counted c h counted =
    let found = counted_forgotten c.args.self.now (after c) h (forgotten c) (subst (λ (b : Numbers). (f : ClosedFile) → Contains b.accounts.closed f → IsTested b f) c.self.view_is c.forget_lower.ensures.tests) counted in
    let long = counted_length c.args.self.now c.args.self.now.accounts.closed h.logs counted.logs in
    (found.0, found.1, omega (arith, found.2, fewer c, long), found.3)

pub returns-clause-fewer : goal.returns-clause-fewer
returns-clause-fewer c = fewer c

pub returns-clause-few : goal.returns-clause-few
returns-clause-few c limit few =
    let s = forgotten c in few_same limit c.args.self.now (after c) s.keeps.history (flushed_same c.args.self.now.accounts c.forget_lower.new.self s.keeps.numbers.flushed) s.drawn s.next_store few

pub returns-clause-same : goal.returns-clause-same
returns-clause-same c =
    let s = forgotten c in record {
      drawn = s.drawn;
      synced = s.synced;
      stored = s.stored;
      closed = s.closed;
      next_store = s.next_store;
      flushed = flushed_same c.args.self.now.accounts c.forget_lower.new.self s.keeps.numbers.flushed;
    }
