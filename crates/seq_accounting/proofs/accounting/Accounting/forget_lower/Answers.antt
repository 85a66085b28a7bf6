use Rattle.std.proofs.Common.{Contains, not, refl, ap, subst, sym, ◌∙◌, rules}
use Rattle.std.proofs.lemmas.Fn.{filter_same}
use Rattle.std.proofs.lemmas.List.Kept.{AllPairs-filter}
use Rattle.seq_accounting.proofs.TestLaws.{IsTested, told_each, tested}
use Rattle.seq_accounting.proofs.OrderLaws.{order_files, files_kept}
use Rattle.seq_accounting.specs.Accounts.{ClosedFile, Accounts, IsBefore, are_lower, unflushed}
use Rattle.seq_accounting.specs.Noted.{HasNoted}
use Rattle.seq_accounting.proofs.NotedLaws.{noted_same}
use Rattle.seq_accounting.proofs.accounting.Accounting.forget_lower.Goals as goal

pub invariant_of-self : goal.invariant_of-self
invariant_of-self c =
    let kept = filter_same _ (λ (f : ClosedFile). not (are_lower c.self.inside.flushed.whole c.self.inside.flushed.families f.highest)) _ (λ x b f' k. search rules) _ _ c.retain.ensures.filtered in
    order_files _ _ c.self.invariant (record { flushed = record { whole = refl; flushed = refl }; noted = refl; flushing = refl; oldest = record { oldest = refl; since = refl } })
    (λ q f. (c.self.invariant.regions q).current_noted f)
    (rw kept (AllPairs-filter IsBefore _ _ c.self.invariant.rising))
    (rw kept (files_kept _ _ c.self.invariant))

pub returns-clause-closed : goal.returns-clause-closed
returns-clause-closed c =
    let kept = filter_same _ (λ (f : ClosedFile). not (are_lower c.self.inside.flushed.whole c.self.inside.flushed.families f.highest)) _ (λ x b f' k. search rules) _ _ c.retain.ensures.filtered in
    kept ∙ ap (λ (a : Accounts). unflushed a) c.self.view_is

pub returns-clause-order : goal.returns-clause-order
returns-clause-order c = invariant_of-self c

pub returns-clause-tests : goal.returns-clause-tests
returns-clause-tests c =
    subst (λ (a : Accounts). (f : ClosedFile) → Contains a.closed f → IsTested a.whole a.flushed f) c.self.view_is
    (told_each _ (IsTested c.self.inside.flushed.whole c.self.inside.flushed.families) _ (λ x b f' k. search (rules, tested)) _ _ c.retain.ensures.filtered)

pub returns-clause-history : goal.returns-clause-history
returns-clause-history c notes h =
    let before = subst (λ (a : Accounts). HasNoted a notes) (sym c.self.view_is) h in
    noted_same _ _ notes (record { flushed = record { whole = refl; flushed = refl }; noted = refl; flushing = refl; oldest = record { oldest = refl; since = refl } }) before
