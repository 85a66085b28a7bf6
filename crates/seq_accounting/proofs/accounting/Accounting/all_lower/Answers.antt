use Rattle.std.proofs.Common.{Contains, subst, sym, ap, ◌∙◌}
use Rattle.seq_accounting.specs.Accounts.{Accounts, IsClosed}
use Rattle.seq_accounting.proofs.FileLaws.{place_one}
use Rattle.seq_accounting.proofs.accounting.Accounting.all_lower.Goals as goal

pub place_of-place-requires-clause-there : goal.place_of-place-requires-clause-there
place_of-place-requires-clause-there c =
    rw c.deref.ensures.value (subst (λ (a : Accounts). IsClosed a.closed c.args.file) (sym c.self.view_is) c.requires)

pub returns : goal.returns
returns c f there named =
    let place = rw c.deref.ensures.value at c.place_of-place.ensures in
    let within = subst (λ (a : Accounts). Contains a.closed f) (sym c.self.view_is) there in
    let same = c.index.ensures ∙ place_one _ _ _ f c.index.result.now c.self.invariant.rising place within named in
    rw (← same, ← ap (λ (a : Accounts). a.whole) c.self.view_is, ← ap (λ (a : Accounts). a.flushed) c.self.view_is) c.is_lower.ensures.lower
