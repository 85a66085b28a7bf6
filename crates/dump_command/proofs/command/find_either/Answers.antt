use Rattle.std.proofs.Common.{sym, subst, ◌∷◌, []}
use Rattle.log_model.specs.declared.name.Name.{Name}
use Rattle.command_base.specs.LogFiles.{IsDamagedLog, IsLogDamage, IsFound}
use Rattle.command_base.specs.Status.{IsOrEarlier, IsDamageOf}
use Rattle.command_base.specs.declared.status.Status.TheVariants.{Damaged, DiskFault}
use Rattle.log_model.specs.declared.damage.Damage.TheVariants.{Bytes}
use Rattle.command_base.proofs.Endings.{keeps_on}
use Rattle.dump_command.proofs.Dumps.{no_damage, log_reported}
use Rattle.dump_command.proofs.command.find_either.Goals as goal

pub returns-in-Ok-Some-clause-damaged : goal.returns-in-Ok-Some-clause-damaged
returns-in-Ok-Some-clause-damaged g c told name at dumped damaged =
    let files = (g.D.Disk.view c.args.disk.now).files in
    let found = rw c.in-Ok-Some.field-0-is at c.in-Ok-Some.ensures.found told in
    no_damage files c.args.number name at c.in-Ok-Some.text.entries c.in-Ok-Some.text.ended
    (subst (λ (m : Name). IsFound files m c.in-Ok-Some.text.entries c.in-Ok-Some.text.ended) c.name_of-log.ensures found)
    (λ k d. c.in-Ok-Some.ensures.damaged told k (subst (λ (m : Name). IsDamagedLog files m k) (sym c.name_of-log.ensures) d))
    dumped damaged

pub returns-in-Ok-None-clause-moments : goal.returns-in-Ok-None-clause-moments
returns-in-Ok-None-clause-moments g c told = keeps_on (g.D.Disk.view c.args.disk.now) (g.D.Disk.view c.find_log.new.disk) (g.D.Disk.view c.find_old.new.disk) (c.in-Ok-None.ensures.moments told) (c.find_old.ensures.moments told)

pub returns-in-Err-clause-damaged : goal.returns-in-Err-clause-damaged
returns-in-Err-clause-damaged g c told name at dumped damaged =
    let files = (g.D.Disk.view c.args.disk.now).files in
    log_reported files c.args.number name at c.in-Err.status c.in-Err.ensures.refused
    (subst (λ (m : Name). IsDamageOf c.in-Err.status (IsLogDamage files m)) c.name_of-log.ensures (c.in-Err.ensures.damage told))
    (λ k d. subst (λ (m : Name). IsOrEarlier c.in-Err.status (Damaged (Bytes m k)) (DiskFault ∷ [])) c.name_of-log.ensures
    (c.in-Err.ensures.damaged told k (subst (λ (m : Name). IsDamagedLog files m k) (sym c.name_of-log.ensures) d)))
    dumped damaged
