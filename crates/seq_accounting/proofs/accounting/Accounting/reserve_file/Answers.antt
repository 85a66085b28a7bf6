use Rattle.std.proofs.Common.{refl, subst, sym}
use Rattle.seq_accounting.specs.Accounts.{Accounts}
use Rattle.seq_accounting.specs.Noted.{HasNoted}
use Rattle.seq_accounting.proofs.OrderLaws.{order_files}
use Rattle.seq_accounting.proofs.NotedLaws.{noted_same}
use Rattle.seq_accounting.proofs.accounting.Accounting.reserve_file.Goals as goal

pub invariant_of-self-2 : goal.invariant_of-self-2
invariant_of-self-2 c =
    order_files _ _ c.self.invariant (record { flushed = record { whole = refl; flushed = refl }; noted = refl; flushing = refl; oldest = record { oldest = refl; since = refl } })
    (λ q f. (c.self.invariant.regions q).current_noted f)
    (rw c.reserve.ensures.items c.self.invariant.rising)
    (rw c.reserve.ensures.items c.self.invariant.files)

pub returns-clause-order : goal.returns-clause-order
returns-clause-order c = invariant_of-self-2 c

pub returns-clause-history : goal.returns-clause-history
returns-clause-history c notes h =
    let before = subst (λ (a : Accounts). HasNoted a notes) (sym c.self.view_is) h in
    noted_same _ _ notes (record { flushed = record { whole = refl; flushed = refl }; noted = refl; flushing = refl; oldest = record { oldest = refl; since = refl } }) before
