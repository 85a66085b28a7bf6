use Rattle.std.proofs.Common.{Ok, Err, ◌≡◌, ◌∙◌, ◌+◌, ◌<◌, [], ◌∷◌, sym, ap, subst, arith}
use Rattle.std.specs.Prelude.{IfErr}
use Rattle.log_model.specs.Files.{IsSound}
use Rattle.command_base.specs.Status.{IfDamaged, IsDamageOf, IsOrEarlier}
use Rattle.command_base.specs.declared.status.Status.{Status}
use Rattle.command_base.specs.declared.status.Status.TheVariants.{Damaged, DiskFault}
use Rattle.recover_command.specs.Recovered.{IsStoreDamage}
use Rattle.recover_command.proofs.Leaving.{opens_again}
use Rattle.recover_command.proofs.Telling.{fault_refused, leaves_refused, damage_refused, damaged_refused}
use Rattle.compact_command.specs.Refusals.{IsOpeningRefusal}
use Rattle.compact_command.proofs.Opening.{opening_leaves, both_leave, still_opened, has_compacted, stored_at, no_damage_told, no_damage_left, error_is, if_ok}
use Rattle.compact_command.proofs.Telling.{opening_refused}
use Rattle.compact_command.proofs.command.compact_store.Goals as goal

pub returns-in-Ok-clause-done : goal.returns-in-Ok-clause-done
returns-in-Ok-clause-done g c told =
    has_compacted c.args.region c.args.kind (g.D.Disk.view c.args.disk.now) (g.D.Disk.view c.recover_all.new.disk) (g.D.Disk.view c.compact_opened.new.disk) c.compact_opened.result
    (c.in-Ok.ensures.sound told) (c.in-Ok.ensures.alike told) (c.in-Ok.ensures.ready told).no_logs
    (let all = c.in-Ok.ensures.regions in
    let within = c.requires in
    stored_at (g.D.Disk.view c.args.disk.now).files (g.D.Disk.view c.recover_all.new.disk).files 1 c.args.region _ (c.in-Ok.ensures.stored told) within.0 (omega (arith, within, all)))
    (c.compact_opened.ensures.done told)

pub returns-in-Ok-clause-any_moment : goal.returns-in-Ok-clause-any_moment
returns-in-Ok-clause-any_moment g c told =
    both_leave c.args.region c.args.kind (g.D.Disk.view c.args.disk.now) (g.D.Disk.view c.recover_all.new.disk) (g.D.Disk.view c.compact_opened.new.disk)
    (c.in-Ok.ensures.alike told) (c.in-Ok.ensures.ready told).no_logs (c.in-Ok.ensures.any_moment told) (c.compact_opened.ensures.any_moment told)

pub returns-in-Ok-clause-memory : goal.returns-in-Ok-clause-memory
returns-in-Ok-clause-memory g c told memory =
    still_opened (g.D.Disk.view c.args.disk.now) (g.D.Disk.view c.recover_all.new.disk) (g.D.Disk.view c.compact_opened.new.disk) (c.in-Ok.ensures.any_moment told) (c.compact_opened.ensures.memory told memory)

pub returns-in-Ok-clause-sound : goal.returns-in-Ok-clause-sound
returns-in-Ok-clause-sound g c told = if_ok c.compact_opened.result _ (c.in-Ok.ensures.sound told)

pub returns-in-Ok-clause-damage : goal.returns-in-Ok-clause-damage
returns-in-Ok-clause-damage g c told = no_damage_told c.compact_opened.result _ (c.compact_opened.ensures.undamaged told)

pub returns-in-Ok-clause-damage_leaves : goal.returns-in-Ok-clause-damage_leaves
returns-in-Ok-clause-damage_leaves g c told = no_damage_left c.compact_opened.result _ (c.compact_opened.ensures.undamaged told)

pub returns-in-Ok-clause-damaged : goal.returns-in-Ok-clause-damaged
returns-in-Ok-clause-damaged g c told damage not is = absurd (not (c.in-Ok.ensures.sound told))

pub returns-in-Err-clause-any_moment : goal.returns-in-Err-clause-any_moment
returns-in-Err-clause-any_moment g c told = opening_leaves c.args.region c.args.kind (g.D.Disk.view c.args.disk.now) (g.D.Disk.view c.recover_all.new.disk) (c.in-Err.ensures.any_moment told)

pub returns-in-Err-clause-memory : goal.returns-in-Err-clause-memory
returns-in-Err-clause-memory g c told memory = opens_again (g.D.Disk.view c.args.disk.now) (g.D.Disk.view c.recover_all.new.disk) (c.in-Err.ensures.any_moment told)

pub returns-in-Err-clause-refused : goal.returns-in-Err-clause-refused
returns-in-Err-clause-refused g c = subst IsOpeningRefusal (sym c.status_of.ensures) (opening_refused c.in-Err.refusal)

pub returns-in-Err-clause-damage : goal.returns-in-Err-clause-damage
returns-in-Err-clause-damage g c told =
    let files = (g.D.Disk.view c.args.disk.now).files in
    subst (λ (s : Status). IsDamageOf s (IsStoreDamage files)) (sym c.status_of.ensures)
    (damage_refused c.in-Err.refusal _ (λ d. ¬ IsSound files) (IsStoreDamage files) (λ d h u. (u, h.0)) (c.in-Err.ensures.damaged told) (c.in-Err.ensures.unsound told))

pub returns-in-Err-clause-damage_leaves : goal.returns-in-Err-clause-damage_leaves
returns-in-Err-clause-damage_leaves g c told =
    subst (λ (s : Status). IfDamaged s ((g.D.Disk.view c.recover_all.new.disk).files ≡ (g.D.Disk.view c.args.disk.now).files)) (sym c.status_of.ensures)
    (leaves_refused c.in-Err.refusal _ _ (λ d h. h.1) (c.in-Err.ensures.damaged told))

pub returns-in-Err-clause-damaged : goal.returns-in-Err-clause-damaged
returns-in-Err-clause-damaged g c told damage not is =
    let files = (g.D.Disk.view c.args.disk.now).files in
    subst (λ (s : Status). IsOrEarlier s (Damaged damage) (DiskFault ∷ [])) (sym c.status_of.ensures)
    (damaged_refused c.in-Err.refusal files _ damage (λ d h. h.0) (c.in-Err.ensures.damaged told) is)

pub returns-in-Err-clause-cause : goal.returns-in-Err-clause-cause
returns-in-Err-clause-cause g c = record {
  later = c.in-Err.ensures.cause.later;
  risen = λ is. c.in-Err.ensures.cause.risen (ap Err (fault_refused c.in-Err.refusal (sym c.status_of.ensures ∙ error_is c.status_of.result DiskFault is)));
}
