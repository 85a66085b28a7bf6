use Rattle.std.proofs.Common.{sym, subst}
use Rattle.log_tail.specs.Failures.{IsReadingRefusal}
use Rattle.log_tail.proofs.Refused.{refused_so}
use Rattle.log_tail.proofs.reading.read_counted.Goals as goal

pub returns-in-Err-clause-refused : goal.returns-in-Err-clause-refused
returns-in-Err-clause-refused g c told bytes reads =
    subst (IsReadingRefusal c.args.name bytes) (sym c.named.ensures) (refused_so c.args.name bytes c.in-Err.e (c.in-Err.ensures.damaged told bytes reads))
