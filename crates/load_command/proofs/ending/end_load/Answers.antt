use Rattle.std.proofs.Common.{refl, sym, ap, subst, ◌∙◌}
use Rattle.disk_images.specs.Calls.{Rose}
use Rattle.script_model.specs.Outputs.{refused_memory}
use Rattle.command_base.specs.Status.{refusal_line, IsComplete}
use Rattle.command_base.specs.declared.status.Status.{Status}
use Rattle.run_model.proofs.KeepsFound.{all_keep}
use Rattle.load_command.specs.Ends.{HasEnded}
use Rattle.run_command.specs.recover_command.Recovered.{IsStoreDamage}
use Rattle.load_command.proofs.Damages.{other_status, printed_damage}
use Rattle.load_command.proofs.Kept.{stays_kept}
use Rattle.load_command.proofs.Telling.{memory_ends, reading_closed, unfinished_ends, unfinished_refusal, unfinished_end, unfinished_fault, unfinished_complete, decided_told}
use Rattle.load_command.proofs.ending.end_load.Goals as goal

pub returns-in-Memory-clause-any_moment : goal.returns-in-Memory-clause-any_moment
returns-in-Memory-clause-any_moment g c told options first ended = stays_kept (g.D.Disk.view first) (g.D.Disk.view c.args.disk.now) ended.keeps

pub returns-in-Memory-clause-ends : goal.returns-in-Memory-clause-ends
returns-in-Memory-clause-ends g c told taken options first script counts ended rise low =
    memory_ends c.refuse.result options script (g.K.Sink.taken c.args.out.now) (g.K.Sink.taken c.refuse.new.sink) (g.D.Disk.view first) (g.D.Disk.view c.args.disk.now) _ _ c.refuse.ensures.status
    (all_keep (g.D.Disk.view first) (g.D.Disk.view c.args.disk.now) ended.keeps) (c.refuse.ensures.prints taken refused_memory refl)

pub returns-in-Memory-clause-refusal : goal.returns-in-Memory-clause-refusal
returns-in-Memory-clause-refusal g c taken is text line = c.refuse.ensures.prints taken text (ap refusal_line (sym c.refuse.ensures.status) ∙ line)

pub returns-in-Memory-clause-complete : goal.returns-in-Memory-clause-complete
returns-in-Memory-clause-complete g c told options first ended unbroken disk sink = subst IsComplete (sym c.refuse.ensures.status) tt

pub returns-in-Done-clause-any_moment : goal.returns-in-Done-clause-any_moment
returns-in-Done-clause-any_moment g c told options first ended =
    c.recover_load.ensures.any_moment told options first (subst (λ (s : Status). HasEnded options (g.D.Disk.view first) (g.D.Disk.view c.args.disk.now) s) c.in-Done.is ended)

pub returns-in-Done-clause-ends : goal.returns-in-Done-clause-ends
returns-in-Done-clause-ends g c told taken options first script counts ended rise low =
    c.recover_load.ensures.ends told taken options first script counts (subst (λ (s : Status). HasEnded options (g.D.Disk.view first) (g.D.Disk.view c.args.disk.now) s) c.in-Done.is ended) low

pub returns-in-Done-clause-refusal : goal.returns-in-Done-clause-refusal
returns-in-Done-clause-refusal g c taken is text line = c.recover_load.ensures.refusal taken is text line

pub returns-in-Done-clause-status : goal.returns-in-Done-clause-status
returns-in-Done-clause-status g c = reading_closed c.recover_load.result c.recover_load.ensures.status

pub returns-in-Done-clause-complete : goal.returns-in-Done-clause-complete
returns-in-Done-clause-complete g c told options first ended unbroken disk sink =
    c.recover_load.ensures.complete told options first (subst (λ (s : Status). HasEnded options (g.D.Disk.view first) (g.D.Disk.view c.args.disk.now) s) c.in-Done.is ended) disk sink

pub print_ended-requires-clause-printed : goal.print_ended-requires-clause-printed
print_ended-requires-clause-printed g c is = decided_told c.args.status c.requires is

pub print_ended-requires-clause-found : goal.print_ended-requires-clause-found
print_ended-requires-clause-found g c is = c.in_default.not-Memory is

pub returns-in_default-clause-any_moment : goal.returns-in_default-clause-any_moment
returns-in_default-clause-any_moment g c told options first ended = stays_kept (g.D.Disk.view first) (g.D.Disk.view c.args.disk.now) ended.keeps

pub returns-in_default-clause-ends : goal.returns-in_default-clause-ends
returns-in_default-clause-ends g c told taken options first script counts ended rise low =
    unfinished_ends c.args.status c.print_ended.result options c.args.counts script (g.K.Sink.taken c.args.out.now) (g.K.Sink.taken c.print_ended.new.out) (g.D.Disk.view first) (g.D.Disk.view c.args.disk.now)
    (Rose (g.D.Disk.faults first) (g.D.Disk.faults c.args.disk.now)) (Rose (g.K.Sink.faults c.args.out.now) (g.K.Sink.faults c.print_ended.new.out))
    c.requires c.in_default.not-Done c.in_default.not-Memory c.print_ended.ensures.status counts ended rise (c.print_ended.ensures.prints taken) (c.print_ended.ensures.refusal taken)

pub returns-in_default-clause-refusal : goal.returns-in_default-clause-refusal
returns-in_default-clause-refusal g c taken is text line =
    unfinished_refusal c.args.status c.print_ended.result (g.K.Sink.taken c.args.out.now) (g.K.Sink.taken c.print_ended.new.out) (Rose (g.K.Sink.faults c.args.out.now) (g.K.Sink.faults c.print_ended.new.out))
    c.requires c.in_default.not-Memory c.print_ended.ensures.status (c.print_ended.ensures.refusal taken) is text line

pub returns-in_default-clause-status : goal.returns-in_default-clause-status
returns-in_default-clause-status g c = unfinished_end c.args.status c.print_ended.result c.requires c.print_ended.ensures.status

pub returns-in_default-clause-disk_cause : goal.returns-in_default-clause-disk_cause
returns-in_default-clause-disk_cause g c is other = absurd (unfinished_fault c.args.status c.print_ended.result c.print_ended.ensures.status is other)

pub returns-in_default-clause-complete : goal.returns-in_default-clause-complete
returns-in_default-clause-complete g c told options first ended unbroken disk sink =
    unfinished_complete c.args.status c.print_ended.result options (g.D.Disk.view first) (g.D.Disk.view c.args.disk.now) c.print_ended.ensures.status c.requires c.in_default.not-Done c.in_default.not-Memory ended unbroken (λ is. sink (c.print_ended.ensures.cause is))

pub returns-in-Memory-clause-damage : goal.returns-in-Memory-clause-damage
returns-in-Memory-clause-damage g c told = other_status c.refuse.result _ (IsStoreDamage (g.D.Disk.view c.args.disk.now).files) c.refuse.ensures.status tt

pub returns-in-Done-clause-damage : goal.returns-in-Done-clause-damage
returns-in-Done-clause-damage g c told = c.recover_load.ensures.damage told

pub returns-in_default-clause-damage : goal.returns-in_default-clause-damage
returns-in_default-clause-damage g c told = printed_damage c.args.status c.print_ended.result (IsStoreDamage (g.D.Disk.view c.args.disk.now).files) c.requires c.print_ended.ensures.status
