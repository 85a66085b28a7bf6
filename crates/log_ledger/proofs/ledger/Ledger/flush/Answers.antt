use Rattle.std.proofs.Common.{◌+◌, ◌==◌, ◌&&◌, if◌then◌else◌, ℕ, List, [], filter, get_or, set, sym, ap, subst, ◌∙◌, arith}
use Rattle.std.proofs.lemmas.List.{set-get_or}
use Rattle.log_model.specs.Entry.{Entry}
use Rattle.seq_accounting.specs.Accounts.{is_for}
use Rattle.seq_accounting.specs.Steps.{IsFlushed}
use Rattle.seq_accounting.specs.Noted.{Note, HasNoted}
use Rattle.log_trucks.specs.Held.{AreHeld, IsSetTo}
use Rattle.log_trucks.specs.Unflushed.{has_unflushed}
use Rattle.log_ledger.specs.Numbers.{Numbers, IsLeft, AreInOrder}
use Rattle.log_ledger.proofs.Steps.{FlushedBy, flushed_same}
use Rattle.log_ledger.proofs.Few.{few_flushed, few_are_few, some_drawn}
use Rattle.log_ledger.proofs.Flushed.{counted_flushed}
use Rattle.log_ledger.proofs.Orders.{order_flushed}
use Rattle.log_ledger.proofs.ledger.Ledger.flush.Goals as goal

-- the ledger's numbers after the call
abbrev after : goal.After-keep_unflushed → Numbers
after c = record {
  drawn = c.self.inside.drawn;
  synced = c.self.inside.synced;
  stored = set c.self.inside.stored c.args.region c.stored_by.result;
  closed = c.self.inside.closed;
  next_store = set c.self.inside.next_store c.args.region (get_or c.self.inside.next_store c.args.region 0 + 1);
  accounts = c.flush.new.self;
  chains = c.keep_unflushed.new.self;
}

flushed : (c : goal.After-keep_unflushed) → FlushedBy c.args.self.now (after c) c.args.region c.args.room
flushed c =
    let was = c.self.view_is in
    let r = c.args.region in record {
      drawn = λ i. (was i).drawn;
      synced = λ i. (was i).synced;
      stored_all = λ all. ap (set c.self.inside.stored r) (c.stored_by.ensures.all all) ∙ (λ i. set (was i).stored r (get_or (was i).drawn r 0));
      stored_one = λ one. ap (set c.self.inside.stored r) (c.stored_by.ensures.one one) ∙ set-get_or c.self.inside.stored r 0 ∙ (λ i. (was i).stored);
      closed = λ i. (was i).closed;
      next_store = λ i. set (was i).next_store r (get_or (was i).next_store r 0 + 1);
      flushed = subst (λ (b : Numbers). IsFlushed b.accounts c.flush.new.self (record { region = r; family = c.args.room; number = get_or b.drawn r 0 })) was c.flush.ensures.flushed;
      history = subst (λ (b : Numbers). (notes : List Note) → HasNoted b.accounts notes → HasNoted c.flush.new.self notes) was c.flush.ensures.history;
      order = c.flush.ensures.order;
      chains = subst (λ (b : Numbers). IsSetTo b.chains c.keep_unflushed.new.self r (λ held. (es : List Entry) → AreHeld (get_or b.chains r []) es → AreHeld held (filter (has_unflushed c.flush.new.self r) es))) was c.keep_unflushed.ensures.kept;
    }

pub flush-requires-clause-given : goal.flush-requires-clause-given
flush-requires-clause-given c = some_drawn _ c.args.region c.args.room c.self.invariant (subst (λ (b : Numbers). IsLeft b c.args.region c.args.room) (sym c.self.view_is) c.requires.left)

pub overflow_add-self : goal.overflow_add-self
overflow_add-self c = let is = few_are_few _ _ c.args.region c.self.invariant.few (c.self.invariant.regions c.args.region).drawn in omega (arith, is)

pub invariant_of-self : goal.invariant_of-self
invariant_of-self c = order_flushed c.args.self.now (after c) c.args.region c.args.room (subst AreInOrder c.self.view_is c.self.invariant) (flushed c) c.requires.served c.requires.left c.requires.committed

pub returns-clause-counted : goal.returns-clause-counted
returns-clause-counted c h counted none = counted_flushed c.args.self.now (after c) c.args.region c.args.room h (subst AreInOrder c.self.view_is c.self.invariant) (flushed c) c.requires.served counted none

pub returns-clause-few : goal.returns-clause-few
returns-clause-few c limit few = few_flushed limit c.args.self.now (after c) c.args.region c.args.room (subst AreInOrder c.self.view_is c.self.invariant) (flushed c) c.requires.served c.requires.left c.requires.committed few

pub returns-clause-stored_still : goal.returns-clause-stored_still
returns-clause-stored_still c one = (flushed c).stored_one one

pub returns-clause-stored : goal.returns-clause-stored
returns-clause-stored c all = (flushed c).stored_all all

pub returns-clause-drawn : goal.returns-clause-drawn
returns-clause-drawn c = (flushed c).drawn

pub returns-clause-synced : goal.returns-clause-synced
returns-clause-synced c = (flushed c).synced

pub returns-clause-closed : goal.returns-clause-closed
returns-clause-closed c = (flushed c).closed

pub returns-clause-next_store : goal.returns-clause-next_store
returns-clause-next_store c = (flushed c).next_store

pub returns-clause-flushed : goal.returns-clause-flushed
returns-clause-flushed c r f =
    let flush = (flushed c).flushed in
    flush.completed.flushed r f ∙ ap (λ (n : ℕ). if (c.args.region == r) && is_for c.args.room f then get_or c.args.self.now.drawn c.args.region 0 else n) (flushed_same c.args.self.now.accounts flush.begun flush.started.flushed r f)

pub returns-clause-files : goal.returns-clause-files
returns-clause-files c =
    let flush = (flushed c).flushed in
    record { closed = flush.completed.files.closed ∙ flush.started.files.closed; last = flush.completed.files.last ∙ flush.started.files.last; room = flush.completed.files.room ∙ flush.started.files.room }
