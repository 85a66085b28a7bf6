use Rattle.std.proofs.Common.{◌<◌, refl, subst, sym}
use Rattle.seq_accounting.specs.Accounts.{ClosedFile, Accounts}
use Rattle.seq_accounting.specs.Noted.{HasNoted}
use Rattle.seq_accounting.proofs.OrderLaws.{order_files, cleared, rising_closed, files_closed}
use Rattle.seq_accounting.proofs.NotedLaws.{noted_same}
use Rattle.seq_accounting.proofs.accounting.Accounting.close_file.Goals as goal

pub invariant_of-self : goal.invariant_of-self
invariant_of-self c =
    let new : ClosedFile = record { file = c.args.file; highest = c.take-highest.result } in
    let above = subst (λ (a : Accounts). a.last < c.args.file) (sym c.self.view_is) c.requires.above in
    order_files _ _ c.self.invariant (record { flushed = record { whole = refl; flushed = refl }; noted = refl; flushing = refl; oldest = record { oldest = refl; since = refl } })
    (cleared _ _ c.take-highest.ensures.left)
    (rw (c.push_reserved.ensures.items, c.new.ensures) (rising_closed _ new c.self.invariant above))
    (rw (c.push_reserved.ensures.items, c.new.ensures) (files_closed _ new c.self.invariant c.requires.given above c.take-highest.ensures.taken))

pub returns-clause-order : goal.returns-clause-order
returns-clause-order c = invariant_of-self c

pub returns-clause-history : goal.returns-clause-history
returns-clause-history c notes h =
    let before = subst (λ (a : Accounts). HasNoted a notes) (sym c.self.view_is) h in
    noted_same _ _ notes (record { flushed = record { whole = refl; flushed = refl }; noted = refl; flushing = refl; oldest = record { oldest = refl; since = refl } }) before
