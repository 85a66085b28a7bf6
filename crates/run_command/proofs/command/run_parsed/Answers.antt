use Rattle.std.proofs.Common.{◌≡◌, [], ◌∷◌, sym, ap, ◌∙◌, subst}
use Rattle.disk_images.specs.Calls.{Rose}
use Rattle.recover_command.specs.Recovered.{IsStoreDamage}
use Rattle.command_base.specs.Status.{refusal_line, IfDamaged, IsDamageOf, IsOrEarlier}
use Rattle.command_base.specs.declared.status.Status.{Status}
use Rattle.command_base.specs.declared.status.Status.TheVariants.{Damaged, DiskFault}
use Rattle.run_command.specs.Ends.{IsParsedEnd, IsRunComplete}
use Rattle.run_command.proofs.Standing.{closed_ends, left_ends, refused_ends}
use Rattle.run_command.proofs.Telling.{report_refuses, report_undamaged, report_damage, report_parsed, report_complete, memory_first, refused_parsed, refused_fault, refused_leaves, refused_damage, refused_first, refused_complete}
use Rattle.run_command.proofs.command.run_parsed.Goals as goal

-- ---- closed

pub returns-in-Closed-clause-ends : goal.returns-in-Closed-clause-ends
returns-in-Closed-clause-ends g c told sink =
    closed_ends (Rose (g.D.Disk.faults c.args.disk) (g.D.Disk.faults c.in-Closed.disk)) (Rose (g.K.Sink.faults c.args.out.now) (g.K.Sink.faults c.print_report.new.out)) c.print_report.result (g.K.Sink.taken c.args.out.now) (g.K.Sink.taken c.print_report.new.out) c.args.script
    (g.D.Disk.view c.args.disk) (g.D.Disk.view c.in-Closed.disk) c.in-Closed.regions.items c.in-Closed.replies.items c.in-Closed.spent c.in-Closed.broken (c.in-Closed.ensures.ran told) c.in-Closed.ensures.cause (c.print_report.ensures.printed sink)

pub returns-in-Closed-clause-refusal : goal.returns-in-Closed-clause-refusal
returns-in-Closed-clause-refusal g c sink refuses = absurd (report_refuses c.print_report.result c.print_report.ensures.status refuses)

pub returns-in-Closed-clause-damage_leaves : goal.returns-in-Closed-clause-damage_leaves
returns-in-Closed-clause-damage_leaves g c told = report_undamaged _ c.print_report.result c.print_report.ensures.status

pub returns-in-Closed-clause-status : goal.returns-in-Closed-clause-status
returns-in-Closed-clause-status g c = report_parsed c.print_report.result c.print_report.ensures.status

pub returns-in-Closed-clause-damage : goal.returns-in-Closed-clause-damage
returns-in-Closed-clause-damage g c told = report_damage _ c.print_report.result c.print_report.ensures.status

pub returns-in-Closed-clause-damaged : goal.returns-in-Closed-clause-damaged
returns-in-Closed-clause-damaged g c told damage not is = absurd (not (c.in-Closed.ensures.ran told).1.closed.sound)

pub returns-in-Closed-clause-disk_cause : goal.returns-in-Closed-clause-disk_cause
returns-in-Closed-clause-disk_cause g c is = c.in-Closed.ensures.cause (c.print_report.ensures.broken is)

pub returns-in-Closed-clause-complete : goal.returns-in-Closed-clause-complete
returns-in-Closed-clause-complete g c told sound no_disk no_sink =
    report_complete _ _ no_disk no_sink c.print_report.result c.print_report.ensures.status (λ is. c.in-Closed.ensures.cause (c.print_report.ensures.broken is)) c.print_report.ensures.cause

-- ---- left

pub returns-in-Left-clause-ends : goal.returns-in-Left-clause-ends
returns-in-Left-clause-ends g c told sink =
    left_ends _ _ c.refuse.result (g.K.Sink.taken c.args.out.now) (g.K.Sink.taken c.refuse.new.sink) c.args.script (g.D.Disk.view c.args.disk) (g.D.Disk.view c.in-Left.disk)
    c.refuse.ensures.status (c.in-Left.ensures.ran told) (c.refuse.ensures.prints sink)

pub returns-in-Left-clause-damaged : goal.returns-in-Left-clause-damaged
returns-in-Left-clause-damaged g c told damage not is = memory_first c.refuse.result (Damaged damage) (DiskFault ∷ []) c.refuse.ensures.status

-- ---- not opened

pub returns-in-NotOpened-clause-ends : goal.returns-in-NotOpened-clause-ends
returns-in-NotOpened-clause-ends g c told sink =
    refused_ends _ _ c.in-NotOpened.why c.refuse-in-NotOpened.result (g.K.Sink.taken c.args.out.now) (g.K.Sink.taken c.refuse-in-NotOpened.new.sink) c.args.script (g.D.Disk.view c.args.disk) (g.D.Disk.view c.in-NotOpened.disk)
    (c.refuse-in-NotOpened.ensures.status ∙ c.status_of.ensures) (c.in-NotOpened.ensures.ran told)
    (λ text is. c.refuse-in-NotOpened.ensures.prints sink text (ap refusal_line c.status_of.ensures ∙ is))

pub returns-in-NotOpened-clause-refusal : goal.returns-in-NotOpened-clause-refusal
returns-in-NotOpened-clause-refusal g c sink refuses text is = c.refuse-in-NotOpened.ensures.prints sink text (ap refusal_line (sym c.refuse-in-NotOpened.ensures.status) ∙ is)

pub returns-in-NotOpened-clause-damage_leaves : goal.returns-in-NotOpened-clause-damage_leaves
returns-in-NotOpened-clause-damage_leaves g c told =
    subst (λ (s : Status). IfDamaged s ((g.D.Disk.view c.in-NotOpened.disk).files ≡ (g.D.Disk.view c.args.disk).files)) (sym (c.refuse-in-NotOpened.ensures.status ∙ c.status_of.ensures))
    (refused_leaves c.in-NotOpened.why _ _ (c.in-NotOpened.ensures.ran told).1)

pub returns-in-NotOpened-clause-status : goal.returns-in-NotOpened-clause-status
returns-in-NotOpened-clause-status g c = subst IsParsedEnd (sym (c.refuse-in-NotOpened.ensures.status ∙ c.status_of.ensures)) (refused_parsed c.in-NotOpened.why)

pub returns-in-NotOpened-clause-damage : goal.returns-in-NotOpened-clause-damage
returns-in-NotOpened-clause-damage g c told =
    subst (λ (s : Status). IsDamageOf s (IsStoreDamage (g.D.Disk.view c.args.disk).files)) (sym (c.refuse-in-NotOpened.ensures.status ∙ c.status_of.ensures))
    (refused_damage c.in-NotOpened.why _ _ (c.in-NotOpened.ensures.ran told).1)

pub returns-in-NotOpened-clause-damaged : goal.returns-in-NotOpened-clause-damaged
returns-in-NotOpened-clause-damaged g c told damage not is =
    subst (λ (s : Status). IsOrEarlier s (Damaged damage) (DiskFault ∷ [])) (sym (c.refuse-in-NotOpened.ensures.status ∙ c.status_of.ensures))
    (refused_first c.in-NotOpened.why (g.D.Disk.view c.args.disk).files _ damage (c.in-NotOpened.ensures.ran told).1 is)

pub returns-in-NotOpened-clause-disk_cause : goal.returns-in-NotOpened-clause-disk_cause
returns-in-NotOpened-clause-disk_cause g c is = c.in-NotOpened.ensures.cause (refused_fault c.in-NotOpened.why (sym (c.refuse-in-NotOpened.ensures.status ∙ c.status_of.ensures) ∙ is))

pub returns-in-NotOpened-clause-complete : goal.returns-in-NotOpened-clause-complete
returns-in-NotOpened-clause-complete g c told sound no_disk no_sink =
    subst IsRunComplete (sym (c.refuse-in-NotOpened.ensures.status ∙ c.status_of.ensures))
    (refused_complete c.in-NotOpened.why (g.D.Disk.view c.args.disk).files _ _ sound (c.in-NotOpened.ensures.ran told).1 c.in-NotOpened.ensures.cause no_disk)
