use Rattle.std.proofs.Common.{refl}
use Rattle.seq_accounting.proofs.BeginLaws.{order_new, history_new}
use Rattle.seq_accounting.proofs.accounting.Accounting.new.Goals as goal

pub invariant_of-result : goal.invariant_of-result
invariant_of-result c = order_new _ (record { wide = c.flushed_by-whole.ensures.wide; noted = refl; flushing = refl; flushed = c.in_ok-families.ensures; oldest = c.in_ok-oldest.ensures; since = c.in_ok-since.ensures; current = c.new-4.ensures; closed = c.in_ok-closed.ensures.items })

pub returns-clause-order : goal.returns-clause-order
returns-clause-order c = invariant_of-result c

pub returns-clause-history : goal.returns-clause-history
returns-clause-history c = history_new _ (record { wide = c.flushed_by-whole.ensures.wide; noted = refl; flushing = refl; flushed = c.in_ok-families.ensures; oldest = c.in_ok-oldest.ensures; since = c.in_ok-since.ensures; current = c.new-4.ensures; closed = c.in_ok-closed.ensures.items })
