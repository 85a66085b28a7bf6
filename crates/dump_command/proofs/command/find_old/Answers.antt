use Rattle.std.proofs.Common.{sym, subst, ◌∷◌, []}
use Rattle.log_model.specs.declared.name.Name.{Name}
use Rattle.command_base.specs.LogFiles.{IsDamagedLog}
use Rattle.command_base.specs.Status.{IsOrEarlier}
use Rattle.command_base.specs.declared.status.Status.TheVariants.{Damaged, DiskFault}
use Rattle.log_model.specs.declared.damage.Damage.TheVariants.{Bytes}
use Rattle.dump_command.proofs.command.find_old.Goals as goal

pub returns-in-Ok-Some-clause-damaged : goal.returns-in-Ok-Some-clause-damaged
returns-in-Ok-Some-clause-damaged g c told at damaged =
    c.in-Ok-Some.ensures.damaged told at (subst (λ (m : Name). IsDamagedLog (g.D.Disk.view c.args.disk.now).files m at) (sym c.name_of-old.ensures) damaged)

pub returns-in-Err-clause-damaged : goal.returns-in-Err-clause-damaged
returns-in-Err-clause-damaged g c told at damaged =
    subst (λ (m : Name). IsOrEarlier c.in-Err.status (Damaged (Bytes m at)) (DiskFault ∷ [])) c.name_of-old.ensures
    (c.in-Err.ensures.damaged told at (subst (λ (m : Name). IsDamagedLog (g.D.Disk.view c.args.disk.now).files m at) (sym c.name_of-old.ensures) damaged))
