use Rattle.std.proofs.Common.{Err, sym, ap, subst, ◌≡◌, ◌∙◌, ◌∷◌, []}
use Rattle.disk_images.specs.Calls.{Rose}
use Rattle.script_model.specs.Outputs.{recover_text}
use Rattle.command_base.specs.Invocation.{invocation}
use Rattle.command_base.specs.Status.{refusal_line, IfDamaged, IsDamageOf, IsReadingEnd, IsOrEarlier}
use Rattle.command_base.specs.declared.status.Status.{Status}
use Rattle.command_base.specs.declared.status.Status.TheVariants.{Damaged, DiskFault}
use Rattle.command_base.proofs.Readers.{lined}
use Rattle.recover_command.specs.Lines.{lines_from}
use Rattle.recover_command.specs.Recovered.{EndsRecover}
use Rattle.recover_command.proofs.Leaving.{recovered, opens_again}
use Rattle.recover_command.proofs.Telling.{refused_ends, printed_ends, reads_refused, fault_refused, leaves_refused, damage_refused, damaged_refused, print_leaves}
use Rattle.log_model.specs.Files.{IsSound}
use Rattle.recover_command.specs.Recovered.{IsStoreDamage}
use Rattle.recover_command.proofs.command.recover.Goals as goal

pub returns-in-Ok-clause-ends : goal.returns-in-Ok-clause-ends
returns-in-Ok-clause-ends g c told taken script =
    let before = g.D.Disk.view c.args.disk.now in
    let after = g.D.Disk.view c.recover_all.new.disk in
    let had = g.K.Sink.taken c.args.out.now in
    let has = g.K.Sink.taken c.print_regions.new.out in
    printed_ends c.print_regions.result (recover_text (lines_from 1 c.in-Ok.regions)) script had has before after _ _ c.print_regions.ensures.status
    (recovered script had has before after c.in-Ok.regions (c.in-Ok.ensures.sound told) c.in-Ok.ensures.regions (c.in-Ok.ensures.recovered told) (c.in-Ok.ensures.ready told) (c.in-Ok.ensures.alike told))
    (opens_again before after (c.in-Ok.ensures.any_moment told)) (c.print_regions.ensures.prints taken) (c.print_regions.ensures.refusal taken)

pub returns-in-Ok-clause-refusal : goal.returns-in-Ok-clause-refusal
returns-in-Ok-clause-refusal g c taken = lined c.print_regions.result _ _ _ c.print_regions.ensures.status (c.print_regions.ensures.refusal taken)

pub returns-in-Ok-clause-any_moment : goal.returns-in-Ok-clause-any_moment
returns-in-Ok-clause-any_moment g c told = ∣ c.in-Ok.ensures.any_moment told ∣₁

pub returns-in-Ok-clause-damage_leaves : goal.returns-in-Ok-clause-damage_leaves
returns-in-Ok-clause-damage_leaves g c told = print_leaves c.print_regions.result _ c.print_regions.ensures.status

pub returns-in-Ok-clause-damaged : goal.returns-in-Ok-clause-damaged
returns-in-Ok-clause-damaged g c told damage not is = absurd (not (c.in-Ok.ensures.sound told))

pub returns-in-Err-clause-ends : goal.returns-in-Err-clause-ends
returns-in-Err-clause-ends g c told taken script =
    let before = g.D.Disk.view c.args.disk.now in
    let after = g.D.Disk.view c.recover_all.new.disk in
    let had = g.K.Sink.taken c.args.out.now in
    let has = g.K.Sink.taken c.refuse.new.sink in
    subst (λ (s : Status). EndsRecover s (invocation script before after had has) (Rose (g.D.Disk.faults c.args.disk.now) (g.D.Disk.faults c.recover_all.new.disk))
    (Rose (g.K.Sink.faults c.args.out.now) (g.K.Sink.faults c.refuse.new.sink))) (sym (c.refuse.ensures.status ∙ c.status_of.ensures))
    (refused_ends c.in-Err.refusal script had has before after _ _ (opens_again before after (c.in-Err.ensures.any_moment told))
    (λ text line. c.refuse.ensures.prints taken text (ap refusal_line c.status_of.ensures ∙ line)))

pub returns-in-Err-clause-any_moment : goal.returns-in-Err-clause-any_moment
returns-in-Err-clause-any_moment g c told = ∣ c.in-Err.ensures.any_moment told ∣₁

pub returns-in-Err-clause-damage_leaves : goal.returns-in-Err-clause-damage_leaves
returns-in-Err-clause-damage_leaves g c told =
    subst (λ (s : Status). IfDamaged s ((g.D.Disk.view c.recover_all.new.disk).files ≡ (g.D.Disk.view c.args.disk.now).files)) (sym (c.refuse.ensures.status ∙ c.status_of.ensures)) (leaves_refused c.in-Err.refusal _ _ (λ d h. h.1) (c.in-Err.ensures.damaged told))

pub returns-in-Err-clause-status : goal.returns-in-Err-clause-status
returns-in-Err-clause-status g c = subst IsReadingEnd (sym (c.refuse.ensures.status ∙ c.status_of.ensures)) (reads_refused c.in-Err.refusal)

pub returns-in-Err-clause-damage : goal.returns-in-Err-clause-damage
returns-in-Err-clause-damage g c told =
    let files = (g.D.Disk.view c.args.disk.now).files in
    subst (λ (s : Status). IsDamageOf s (IsStoreDamage files)) (sym (c.refuse.ensures.status ∙ c.status_of.ensures)) (damage_refused c.in-Err.refusal _ (λ d. ¬ IsSound files) (IsStoreDamage files) (λ d h u. (u, h.0)) (c.in-Err.ensures.damaged told) (c.in-Err.ensures.unsound told))

pub returns-in-Err-clause-damaged : goal.returns-in-Err-clause-damaged
returns-in-Err-clause-damaged g c told damage not is =
    let files = (g.D.Disk.view c.args.disk.now).files in
    subst (λ (s : Status). IsOrEarlier s (Damaged damage) (DiskFault ∷ [])) (sym (c.refuse.ensures.status ∙ c.status_of.ensures))
    (damaged_refused c.in-Err.refusal files _ damage (λ d h. h.0) (c.in-Err.ensures.damaged told) is)

pub returns-in-Err-clause-disk_cause : goal.returns-in-Err-clause-disk_cause
returns-in-Err-clause-disk_cause g c is = c.in-Err.ensures.cause.risen (ap Err (fault_refused c.in-Err.refusal (sym (c.refuse.ensures.status ∙ c.status_of.ensures) ∙ is)))
