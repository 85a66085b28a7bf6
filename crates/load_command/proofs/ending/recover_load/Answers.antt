use Rattle.std.proofs.Common.{◌⊎◌, ◌-◌, ◌^◌, min, sum_by, Err, sym, ap, subst, ◌∙◌}
use Rattle.disk_images.specs.Calls.{Rose}
use Rattle.load_model.specs.Text.{load_text, ended_text}
use Rattle.load_model.specs.Loaded.{HasLoaded, HasBroken, HasStopped}
use Rattle.command_base.specs.Invocation.{invocation}
use Rattle.command_base.specs.Status.{refusal_line, IsComplete, IsReadingEnd}
use Rattle.command_base.specs.declared.status.Status.{Status}
use Rattle.command_base.proofs.Readers.{lined}
use Rattle.run_command.proofs.recover_command_laws.Telling.{reads_refused, fault_refused}
use Rattle.run_command.specs.recover_command.Refusals.{refused_as}
use Rattle.load_command.specs.Counted.{cells_of}
use Rattle.load_command.specs.Ends.{EndsLoad}
use Rattle.run_command.specs.recover_command.Recovered.{IsStoreDamage}
use Rattle.load_command.proofs.Damages.{other_status, print_damage, found_damage, refused_damage}
use Rattle.load_command.proofs.Kept.{opened_keeps, opened_throughout}
use Rattle.load_command.proofs.Telling.{done, printed_ends, refused_ends, print_complete, refused_complete, undamaged, stopped_at, broken_ends}
use Rattle.load_command.proofs.Running.{rose_then}
use Rattle.disk_images.proofs.Moments.{at_end}
use Rattle.run_command.specs.wal_split.Moments.{WasOrAlike}
use Rattle.load_command.proofs.ending.recover_load.Goals as goal

pub returns-in-Ok-clause-any_moment : goal.returns-in-Ok-clause-any_moment
returns-in-Ok-clause-any_moment g c told options first ended =
    opened_throughout (g.D.Disk.view first) (g.D.Disk.view c.args.disk.now) (g.D.Disk.view c.recover_all.new.disk) ended.keeps (g.met.D.Disk.is_true c.args.disk.now told).reads (c.in-Ok.ensures.any_moment told)

pub returns-in-Ok-clause-ends : goal.returns-in-Ok-clause-ends
returns-in-Ok-clause-ends g c told taken options first script counts ended low =
    let before = g.D.Disk.view first in
    let left = g.D.Disk.view c.args.disk.now in
    let after = g.D.Disk.view c.recover_all.new.disk in
    let now = (g.met.D.Disk.is_true c.args.disk.now told).reads in
    printed_ends c.print_loaded.result options (load_text c.args.counts c.count_cells.result) script (g.K.Sink.taken c.args.out.now) (g.K.Sink.taken c.print_loaded.new.out) before after _ _ c.print_loaded.ensures.status
    (subst (λ k. ∥ HasLoaded options after (load_text k c.count_cells.result) ∥₁) (sym counts)
    (done options before left after c.in-Ok.regions c.count_cells.result ended now (c.in-Ok.ensures.sound told) c.in-Ok.ensures.regions (c.in-Ok.ensures.recovered told) (c.in-Ok.ensures.ready told) (c.in-Ok.ensures.alike told)
    (c.count_cells.ensures ∙ ap (λ xs. min (sum_by cells_of xs) (2 ^ 64 - 1)) c.as_slice.ensures)))
    (opened_keeps before left after ended.keeps now (c.in-Ok.ensures.any_moment told)) (c.print_loaded.ensures.prints taken) (c.print_loaded.ensures.refusal taken)

pub returns-in-Ok-clause-refusal : goal.returns-in-Ok-clause-refusal
returns-in-Ok-clause-refusal g c taken may = lined c.print_loaded.result _ _ _ c.print_loaded.ensures.status (c.print_loaded.ensures.refusal taken)

pub returns-in-Ok-clause-complete : goal.returns-in-Ok-clause-complete
returns-in-Ok-clause-complete g c told options first ended disk sink = print_complete c.print_loaded.result c.print_loaded.ensures.status (λ is. sink (c.print_loaded.ensures.cause is))

pub returns-in_default-clause-any_moment : goal.returns-in_default-clause-any_moment
returns-in_default-clause-any_moment g c told options first ended =
    opened_throughout (g.D.Disk.view first) (g.D.Disk.view c.args.disk.now) (g.D.Disk.view c.recover_all.new.disk) ended.keeps (g.met.D.Disk.is_true c.args.disk.now told).reads (c.in-Err.ensures.any_moment told)

pub returns-in_default-clause-ends : goal.returns-in_default-clause-ends
returns-in_default-clause-ends g c told taken options first script counts ended low =
    let before = g.D.Disk.view first in
    let left = g.D.Disk.view c.args.disk.now in
    let after = g.D.Disk.view c.recover_all.new.disk in
    let now = (g.met.D.Disk.is_true c.args.disk.now told).reads in
    let had = g.K.Sink.taken c.args.out.now in
    let has = g.K.Sink.taken c.refuse.new.sink in
    subst (λ (s : Status). EndsLoad s options (invocation script before after had has) (Rose (g.D.Disk.faults first) (g.D.Disk.faults c.recover_all.new.disk))
    (Rose (g.K.Sink.faults c.args.out.now) (g.K.Sink.faults c.refuse.new.sink))) (sym (c.refuse.ensures.status ∙ c.status_of.ensures))
    (refused_ends c.in-Err.refusal options script had has before after (Rose (g.D.Disk.faults first) (g.D.Disk.faults c.recover_all.new.disk)) (Rose (g.K.Sink.faults c.args.out.now) (g.K.Sink.faults c.refuse.new.sink)) (λ e. c.in_default.not-DiskFault (c.status_of.ensures ∙ ap refused_as e)) (opened_keeps before left after ended.keeps now (c.in-Err.ensures.any_moment told))
    (λ text line. c.refuse.ensures.prints taken text (ap refusal_line c.status_of.ensures ∙ line)))

pub returns-in_default-clause-status : goal.returns-in_default-clause-status
returns-in_default-clause-status g c = subst IsReadingEnd (sym (c.refuse.ensures.status ∙ c.status_of.ensures)) (reads_refused c.in-Err.refusal)

pub returns-in_default-clause-disk_cause : goal.returns-in_default-clause-disk_cause
returns-in_default-clause-disk_cause g c is = c.in-Err.ensures.cause.risen (ap Err (fault_refused c.in-Err.refusal (sym (c.refuse.ensures.status ∙ c.status_of.ensures) ∙ is)))

pub returns-in_default-clause-complete : goal.returns-in_default-clause-complete
returns-in_default-clause-complete g c told options first ended disk sink =
    let before = g.D.Disk.view first in
    let left = g.D.Disk.view c.args.disk.now in
    let after = g.D.Disk.view c.recover_all.new.disk in
    let now = (g.met.D.Disk.is_true c.args.disk.now told).reads in
    subst IsComplete (sym (c.refuse.ensures.status ∙ c.status_of.ensures))
    (refused_complete c.in-Err.refusal _ (λ is. disk (c.in-Err.ensures.cause.risen (ap Err is))) (λ d told_damage. undamaged options before left d ended now told_damage.0) (found_damage c.in-Err.refusal left.files after.files (c.in-Err.ensures.damaged told) (c.in-Err.ensures.unsound told)))

pub returns-in-Ok-clause-damage : goal.returns-in-Ok-clause-damage
returns-in-Ok-clause-damage g c told = print_damage c.print_loaded.result (IsStoreDamage (g.D.Disk.view c.recover_all.new.disk).files) c.print_loaded.ensures.status

pub returns-in_default-clause-damage : goal.returns-in_default-clause-damage
returns-in_default-clause-damage g c told =
    other_status c.refuse.result _ (IsStoreDamage (g.D.Disk.view c.recover_all.new.disk).files) (c.refuse.ensures.status ∙ c.status_of.ensures)
    (refused_damage c.in-Err.refusal (g.D.Disk.view c.args.disk.now).files (g.D.Disk.view c.recover_all.new.disk).files
    (found_damage c.in-Err.refusal (g.D.Disk.view c.args.disk.now).files (g.D.Disk.view c.recover_all.new.disk).files (c.in-Err.ensures.damaged told) (c.in-Err.ensures.unsound told)))

pub returns-in-DiskFault-clause-any_moment : goal.returns-in-DiskFault-clause-any_moment
returns-in-DiskFault-clause-any_moment g c told options first ended =
    opened_throughout (g.D.Disk.view first) (g.D.Disk.view c.args.disk.now) (g.D.Disk.view c.recover_all.new.disk) ended.keeps (g.met.D.Disk.is_true c.args.disk.now told).reads (c.in-Err.ensures.any_moment told)

pub returns-in-DiskFault-clause-ends : goal.returns-in-DiskFault-clause-ends
returns-in-DiskFault-clause-ends g c told taken options first script counts ended low =
    let before = g.D.Disk.view first in
    let left = g.D.Disk.view c.args.disk.now in
    let after = g.D.Disk.view c.recover_all.new.disk in
    let now = (g.met.D.Disk.is_true c.args.disk.now told).reads in
    let rise : Rose (g.D.Disk.faults c.args.disk.now) (g.D.Disk.faults c.recover_all.new.disk) = c.in-Err.ensures.cause.risen (ap Err (fault_refused c.in-Err.refusal (sym c.status_of.ensures ∙ c.in-DiskFault.is))) in
    broken_ends c.print_ended.result options (ended_text c.args.counts 5) script (g.K.Sink.taken c.args.out.now) (g.K.Sink.taken c.print_ended.new.out) before after
    (Rose (g.D.Disk.faults first) (g.D.Disk.faults c.recover_all.new.disk)) (Rose (g.K.Sink.faults c.args.out.now) (g.K.Sink.faults c.print_ended.new.out)) c.print_ended.ensures.status
    (subst (λ k. ∥ HasBroken options before after (ended_text k 5) ⊎ HasStopped options after (ended_text k 5) ∥₁) (sym counts)
    (stopped_at options before left after ended now (λ J image. at_end (WasOrAlike left) (c.in-Err.ensures.any_moment told).0 left after (c.in-Err.ensures.any_moment told).1 J image)))
    (opened_keeps before left after ended.keeps now (c.in-Err.ensures.any_moment told)) (rose_then _ _ _ low rise) (c.print_ended.ensures.prints taken) (c.print_ended.ensures.refusal taken)
