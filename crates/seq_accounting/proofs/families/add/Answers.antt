use Rattle.std.proofs.Common.{◌≡◌, sym, ◌∙◌, refl, arith}
use Rattle.seq_accounting.proofs.BatchLaws.{added_before}
use Rattle.seq_accounting.proofs.families.add.Goals as goal

pub returns-then-number-ne0-clause-account : goal.returns-then-number-ne0-clause-account
returns-then-number-ne0-clause-account c = added_before c.args.account.now c.args.account.now 0 c.args.family.now (λ z. absurd (omega (arith, c.if-number-ne0.true, c.get-number.ensures, z))) (λ g. refl)

pub returns-then-number-ne0-clause-file : goal.returns-then-number-ne0-clause-file
returns-then-number-ne0-clause-file c = added_before c.args.account.now c.args.file.now 0 c.args.family.now (λ z. absurd (omega (arith, c.if-number-ne0.true, c.get-number.ensures, z))) c.requires
