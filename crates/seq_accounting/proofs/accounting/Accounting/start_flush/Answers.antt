use Rattle.std.proofs.Common.{subst}
use Rattle.seq_accounting.specs.Order.{IsInOrder}
use Rattle.seq_accounting.proofs.accounting.Accounting.start_flush.Goals as goal

pub returns-in_err-flushing-in-Some-clause-order : goal.returns-in_err-flushing-in-Some-clause-order
returns-in_err-flushing-in-Some-clause-order c = subst IsInOrder c.self.view_is c.self.invariant
