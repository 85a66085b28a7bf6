use Rattle.std.proofs.Common.{subst}
use Rattle.seq_accounting.specs.Accounts.{Flush}
use Rattle.seq_accounting.specs.Steps.{IsCompleted}
use Rattle.seq_accounting.proofs.accounting.Accounting.flush.Goals as goal

pub returns-clause-history : goal.returns-clause-history
returns-clause-history c notes h = c.complete_flush.ensures.history notes (c.begin.ensures.history notes h)

pub returns-clause-flushed : goal.returns-clause-flushed
returns-clause-flushed c = record {
  begun = c.begin.new.self;
  started = c.begin.ensures.started;
  completed = subst (λ (f : Flush). IsCompleted c.begin.new.self c.complete_flush.new.self f) c.begin-flushing.ensures c.complete_flush.ensures.completed;
}
