use Rattle.std.proofs.Common.{inl, inr, refl}
use Rattle.std.proofs.lemmas.Result.{on_ok_weaker}
use Rattle.found_files.specs.Checked.{TellsOne}
use Rattle.found_files.specs.Refusal.{IsDamageAt}
use Rattle.found_files.proofs.Told.{if_damage}
use Rattle.found_files.proofs.checking.read_one.Goals as goal

pub returns-then-is_bad-clause-damaged : goal.returns-then-is_bad-clause-damaged
returns-then-is_bad-clause-damaged g c told names old = inl (c.is_bad.ensures.bad c.if-is_bad.true names old, refl)

pub returns-clause-read : goal.returns-clause-read
returns-clause-read g c names old = on_ok_weaker c.read_file.result (λ reads. record { good = c.is_bad.ensures.good c.if-is_bad.false names old; file = reads }) c.read_file.ensures.read

pub returns-clause-damaged : goal.returns-clause-damaged
returns-clause-damaged g c told names old =
    let files = (g.D.Disk.view c.args.disk.now).files in
    if_damage (IsDamageAt files c.args.name) (TellsOne files names c.args.name) c.read_file.result (λ d hurt. inr (c.is_bad.ensures.good c.if-is_bad.false names old, hurt)) (c.read_file.ensures.damaged told)
