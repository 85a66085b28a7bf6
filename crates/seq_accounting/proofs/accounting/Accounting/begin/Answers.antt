use Rattle.std.proofs.Common.{◌≡◌, ◌≤◌, get_or, refl, subst, sym}
use Rattle.seq_accounting.specs.Accounts.{Accounts}
use Rattle.seq_accounting.specs.Noted.{HasNoted}
use Rattle.seq_accounting.proofs.OrderLaws.{order_started}
use Rattle.seq_accounting.proofs.NotedLaws.{noted_start}
use Rattle.seq_accounting.proofs.accounting.Accounting.begin.Goals as goal

pub invariant_of-self : goal.invariant_of-self
invariant_of-self c =
    let above = subst (λ (a : Accounts). get_or a.noted c.args.region 0 ≤ c.args.number) (sym c.self.view_is) c.requires.above in
    order_started _ _ c.args.region c.args.number c.self.invariant c.requires.region c.requires.given above (record {
      noted = refl;
      flushing = refl;
      flushed = record { whole = refl; flushed = refl };
      oldest = record { oldest = refl; since = refl };
      current = refl;
      files = record { closed = refl; last = refl; room = refl };
    })

pub returns-clause-order : goal.returns-clause-order
returns-clause-order c = invariant_of-self c

pub returns-clause-history : goal.returns-clause-history
returns-clause-history c notes h =
    let above = subst (λ (a : Accounts). get_or a.noted c.args.region 0 ≤ c.args.number) (sym c.self.view_is) c.requires.above in
    let none = subst (λ (a : Accounts). get_or a.flushing c.args.region 0 ≡ 0) (sym c.self.view_is) c.requires.none in
    let before = subst (λ (a : Accounts). HasNoted a notes) (sym c.self.view_is) h in
    noted_start _ _ notes c.args.region c.args.number c.self.invariant c.requires.region above none (record {
      noted = refl;
      flushing = refl;
      flushed = record { whole = refl; flushed = refl };
      oldest = record { oldest = refl; since = refl };
      current = refl;
      files = record { closed = refl; last = refl; room = refl };
    }) before
