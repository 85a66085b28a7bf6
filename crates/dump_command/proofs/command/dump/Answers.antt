use Rattle.std.proofs.Common.{sym, ap, subst, ◌∙◌, ◌∷◌, []}
use Rattle.command_base.specs.Invocation.{invocation}
use Rattle.command_base.specs.LogFiles.{IsLogRefusal}
use Rattle.command_base.specs.Status.{IsOrEarlier, refusal_line}
use Rattle.command_base.specs.declared.status.Status.{Status}
use Rattle.command_base.specs.declared.status.Status.TheVariants.{Damaged, DiskFault}
use Rattle.log_model.specs.declared.damage.Damage.TheVariants.{Bytes}
use Rattle.command_base.proofs.Readers.{ends_printed, ends_refused, lined}
use Rattle.dump_command.specs.Dumped.{DumpDone}
use Rattle.dump_command.specs.Found.{found_text}
use Rattle.dump_command.proofs.Dumps.{dumped}
use Rattle.dump_command.proofs.command.dump.Goals as goal

pub returns-in-Ok-clause-ends : goal.returns-in-Ok-clause-ends
returns-in-Ok-clause-ends g c told taken script =
    let before = g.D.Disk.view c.args.disk.now in
    let after = g.D.Disk.view c.find_either.new.disk in
    let had = g.K.Sink.taken c.args.out.now in
    let has = g.K.Sink.taken c.print_found.new.out in
    ends_printed (λ text. DumpDone c.args.number (invocation script before after had has) text) c.print_found.result (found_text c.in-Ok.found) script before after had has _ _
    c.print_found.ensures.status (dumped c.args.number c.in-Ok.found script before after had has (c.in-Ok.ensures.found told) c.in-Ok.ensures.number) (c.in-Ok.ensures.unchanged told)
    (c.print_found.ensures.prints taken) (c.print_found.ensures.refusal taken)

pub returns-in-Ok-clause-refusal : goal.returns-in-Ok-clause-refusal
returns-in-Ok-clause-refusal g c taken = lined c.print_found.result _ _ _ c.print_found.ensures.status (c.print_found.ensures.refusal taken)

pub returns-in-Ok-clause-damaged : goal.returns-in-Ok-clause-damaged
returns-in-Ok-clause-damaged g c told name at there damaged = absurd (c.in-Ok.ensures.damaged told name at there damaged)

pub returns-in-Err-clause-ends : goal.returns-in-Err-clause-ends
returns-in-Err-clause-ends g c told taken script =
    let before = g.D.Disk.view c.args.disk.now in
    let after = g.D.Disk.view c.find_either.new.disk in
    let had = g.K.Sink.taken c.args.out.now in
    let has = g.K.Sink.taken c.refuse.new.sink in
    ends_refused (λ text. DumpDone c.args.number (invocation script before after had has) text) c.refuse.result script before after had has _ _
    (subst IsLogRefusal (sym c.refuse.ensures.status) c.in-Err.ensures.refused) (c.in-Err.ensures.unchanged told)
    (λ text line. c.refuse.ensures.prints taken text (ap refusal_line (sym c.refuse.ensures.status) ∙ line))

pub returns-in-Err-clause-damaged : goal.returns-in-Err-clause-damaged
returns-in-Err-clause-damaged g c told name at there damaged =
    subst (λ (s : Status). IsOrEarlier s (Damaged (Bytes name at)) (DiskFault ∷ [])) (sym c.refuse.ensures.status) (c.in-Err.ensures.damaged told name at there damaged)
