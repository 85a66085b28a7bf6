use Rattle.std.proofs.Common.{◌≤◌, subst, Contains, arith}
use Rattle.std.specs.Prelude.{MatchOption}
use Rattle.seq_accounting.specs.Accounts.{ClosedFile}
use Rattle.log_archive.specs.First.{NoneToGo, IsFirstToGo}
use Rattle.log_ledger.specs.Numbers.{Numbers}
use Rattle.log_ledger.proofs.Logs.{file_of, first_counted}
use Rattle.log_ledger.proofs.ledger.Ledger.first_to_go.Goals as goal

pub returns-clause-exact : goal.returns-clause-exact
returns-clause-exact c h counted =
    first_counted c.args.self.now h c.args.above c.first_to_go.result counted
    (subst (λ (b : Numbers). MatchOption c.first_to_go.result (NoneToGo b.accounts c.args.above) (λ file. IsFirstToGo b.accounts c.args.above file)) c.self.view_is c.first_to_go.ensures.first)

pub returns-clause-given : goal.returns-clause-given
returns-clause-given c h counted l has =
    let given = subst (λ (b : Numbers). (f : ClosedFile) → Contains b.accounts.closed f → 1 ≤ f.file) c.self.view_is c.first_to_go.ensures.given in
    let f = file_of c.args.self.now c.args.self.now.accounts.closed h.logs counted.logs l has in
    omega (arith, given f.0 f.1, f.2.number)
