use Rattle.std.proofs.Common.{◌≡◌, [], ◌∷◌, sym, ap, ◌∙◌, subst}
use Rattle.disk_images.specs.Calls.{Rose}
use Rattle.groups_run.specs.group_servers.group_lists.Lists.{count_of}
use Rattle.groups_run.proofs.group_servers_laws.group_lists_laws.Each.{count_within}
use Rattle.groups_run.specs.Found.{views}
use Rattle.groups_command.specs.Disks.{RoseAt, IsFirstDamaged, IsFirstWrong}
use Rattle.groups_command.specs.Status.{refusal_line, IsRefusal, IsDamageOf, IsWrongGroupOf, IsOrEarlier, IsParsedEnd, IsComplete}
use Rattle.groups_command.specs.declared.status.GroupsStatus.{GroupsStatus}
use Rattle.groups_command.specs.declared.status.GroupsStatus.TheVariants.{Damaged, DiskFault, WrongGroup}
use Rattle.groups_command.proofs.Standing.{closed_ends, left_ends, refused_ends}
use Rattle.groups_command.proofs.Telling.{report_shared, report_refuses, report_undamaged, report_right, report_parsed, report_disk, report_sink, report_complete, memory_first, refused_parsed, refused_fault, refused_sink, refused_damage, refused_leaves, refused_wrong, first_damage, first_wrong, refused_complete, not_wrong}
use Rattle.groups_command.proofs.command.run_parsed.Goals as goal

-- ---- closed

pub status_of-requires : goal.status_of-requires
status_of-requires g c = report_shared c.print_report.result c.print_report.ensures.status

pub returns-in-Closed-clause-ends : goal.returns-in-Closed-clause-ends
returns-in-Closed-clause-ends g c told sink =
    closed_ends (count_of c.args.disks) (count_within c.args.disks).0 c.args.script (views g.D.Disk.view c.args.disks) (views g.D.Disk.view c.in-Closed.disks) (RoseAt g.D.Disk.faults c.args.disks c.in-Closed.disks)
    c.in-Closed.regions.items c.in-Closed.replies.items c.in-Closed.spent c.in-Closed.broken (c.in-Closed.ensures.ran told).1 c.in-Closed.ensures.cause (Rose (g.K.Sink.faults c.args.out.now) (g.K.Sink.faults c.print_report.new.out))
    c.print_report.result c.status_of.result (g.K.Sink.taken c.args.out.now) (g.K.Sink.taken c.print_report.new.out) c.status_of.ensures (c.print_report.ensures.printed sink)

pub returns-in-Closed-clause-refusal : goal.returns-in-Closed-clause-refusal
returns-in-Closed-clause-refusal g c sink refuses = absurd (report_refuses c.print_report.result c.print_report.ensures.status (subst IsRefusal c.status_of.ensures refuses))

pub returns-in-Closed-clause-damage_leaves : goal.returns-in-Closed-clause-damage_leaves
returns-in-Closed-clause-damage_leaves g c told =
    subst (λ (s : GroupsStatus). IsDamageOf s (λ disk damage. (views g.D.Disk.view c.in-Closed.disks disk).files ≡ (views g.D.Disk.view c.args.disks disk).files)) (sym c.status_of.ensures)
    (report_undamaged _ c.print_report.result c.print_report.ensures.status)

pub returns-in-Closed-clause-status : goal.returns-in-Closed-clause-status
returns-in-Closed-clause-status g c = subst IsParsedEnd (sym c.status_of.ensures) (report_parsed c.print_report.result c.print_report.ensures.status)

pub returns-in-Closed-clause-disk_cause : goal.returns-in-Closed-clause-disk_cause
returns-in-Closed-clause-disk_cause g c is =
    c.in-Closed.ensures.cause (c.print_report.ensures.broken (report_disk c.print_report.result c.print_report.ensures.status (sym c.status_of.ensures ∙ is)))

pub returns-in-Closed-clause-sink_cause : goal.returns-in-Closed-clause-sink_cause
returns-in-Closed-clause-sink_cause g c is = c.print_report.ensures.cause (report_sink c.print_report.result c.print_report.ensures.status (sym c.status_of.ensures ∙ is))

pub returns-in-Closed-clause-damage_only : goal.returns-in-Closed-clause-damage_only
returns-in-Closed-clause-damage_only g c told =
    subst (λ (s : GroupsStatus). IsDamageOf s (IsFirstDamaged (count_of c.args.disks) (views g.D.Disk.view c.args.disks))) (sym c.status_of.ensures)
    (report_undamaged _ c.print_report.result c.print_report.ensures.status)

pub returns-in-Closed-clause-wrong_group_only : goal.returns-in-Closed-clause-wrong_group_only
returns-in-Closed-clause-wrong_group_only g c told =
    subst (λ (s : GroupsStatus). IsWrongGroupOf s (IsFirstWrong (count_of c.args.disks) (views g.D.Disk.view c.args.disks))) (sym c.status_of.ensures)
    (report_right _ c.print_report.result c.print_report.ensures.status)

pub returns-in-Closed-clause-damage : goal.returns-in-Closed-clause-damage
returns-in-Closed-clause-damage g c told disk damage first = absurd (first.unsound ((c.in-Closed.ensures.ran told).1.closed.each disk first.there).sound)

pub returns-in-Closed-clause-wrong_group : goal.returns-in-Closed-clause-wrong_group
returns-in-Closed-clause-wrong_group g c told disk region sound first =
    absurd (not_wrong (count_of c.args.disks) (views g.D.Disk.view c.args.disks) disk region (c.in-Closed.ensures.ran told).0 first)

pub returns-in-Closed-clause-complete : goal.returns-in-Closed-clause-complete
returns-in-Closed-clause-complete g c told sound clear no_disk no_sink =
    subst IsComplete (sym c.status_of.ensures)
    (report_complete _ _ no_disk no_sink c.print_report.result c.print_report.ensures.status (λ is. c.in-Closed.ensures.cause (c.print_report.ensures.broken is)) c.print_report.ensures.cause)

-- ---- left

pub returns-in-Left-clause-ends : goal.returns-in-Left-clause-ends
returns-in-Left-clause-ends g c told sink =
    left_ends _ _ c.refuse.result (g.K.Sink.taken c.args.out.now) (g.K.Sink.taken c.refuse.new.out) (count_of c.args.disks) c.args.script (views g.D.Disk.view c.args.disks) (views g.D.Disk.view c.in-Left.disks)
    c.refuse.ensures.status (c.in-Left.ensures.ran told) (c.refuse.ensures.prints sink)

pub returns-in-Left-clause-damage : goal.returns-in-Left-clause-damage
returns-in-Left-clause-damage g c told disk damage first = memory_first c.refuse.result (Damaged disk damage) (DiskFault ∷ []) c.refuse.ensures.status

pub returns-in-Left-clause-wrong_group : goal.returns-in-Left-clause-wrong_group
returns-in-Left-clause-wrong_group g c told disk region sound first = memory_first c.refuse.result (WrongGroup disk region) (DiskFault ∷ []) c.refuse.ensures.status

-- ---- not opened

pub returns-in-NotOpened-clause-ends : goal.returns-in-NotOpened-clause-ends
returns-in-NotOpened-clause-ends g c told sink =
    refused_ends _ _ c.in-NotOpened.why c.in-NotOpened.disk c.refuse-in-NotOpened.result (g.K.Sink.taken c.args.out.now) (g.K.Sink.taken c.refuse-in-NotOpened.new.out) (count_of c.args.disks) c.args.script
    (views g.D.Disk.view c.args.disks) (views g.D.Disk.view c.in-NotOpened.disks) (c.refuse-in-NotOpened.ensures.status ∙ c.refused_as.ensures) (c.in-NotOpened.ensures.ran told)
    (λ text is. c.refuse-in-NotOpened.ensures.prints sink text (ap refusal_line c.refused_as.ensures ∙ is))

pub returns-in-NotOpened-clause-refusal : goal.returns-in-NotOpened-clause-refusal
returns-in-NotOpened-clause-refusal g c sink refuses text is = c.refuse-in-NotOpened.ensures.prints sink text (ap refusal_line (sym c.refuse-in-NotOpened.ensures.status) ∙ is)

pub returns-in-NotOpened-clause-damage_leaves : goal.returns-in-NotOpened-clause-damage_leaves
returns-in-NotOpened-clause-damage_leaves g c told =
    subst (λ (s : GroupsStatus). IsDamageOf s (λ disk damage. (views g.D.Disk.view c.in-NotOpened.disks disk).files ≡ (views g.D.Disk.view c.args.disks disk).files))
    (sym (c.refuse-in-NotOpened.ensures.status ∙ c.refused_as.ensures))
    (refused_leaves (count_of c.args.disks) (views g.D.Disk.view c.args.disks) (views g.D.Disk.view c.in-NotOpened.disks) c.in-NotOpened.disk c.in-NotOpened.why (c.in-NotOpened.ensures.ran told))

pub returns-in-NotOpened-clause-status : goal.returns-in-NotOpened-clause-status
returns-in-NotOpened-clause-status g c = subst IsParsedEnd (sym (c.refuse-in-NotOpened.ensures.status ∙ c.refused_as.ensures)) (refused_parsed c.in-NotOpened.why c.in-NotOpened.disk)

pub returns-in-NotOpened-clause-disk_cause : goal.returns-in-NotOpened-clause-disk_cause
returns-in-NotOpened-clause-disk_cause g c is =
    c.in-NotOpened.ensures.cause (refused_fault c.in-NotOpened.why c.in-NotOpened.disk (sym (c.refuse-in-NotOpened.ensures.status ∙ c.refused_as.ensures) ∙ is))

pub returns-in-NotOpened-clause-sink_cause : goal.returns-in-NotOpened-clause-sink_cause
returns-in-NotOpened-clause-sink_cause g c is = absurd (refused_sink c.in-NotOpened.why c.in-NotOpened.disk (sym (c.refuse-in-NotOpened.ensures.status ∙ c.refused_as.ensures) ∙ is))

pub returns-in-NotOpened-clause-damage_only : goal.returns-in-NotOpened-clause-damage_only
returns-in-NotOpened-clause-damage_only g c told =
    subst (λ (s : GroupsStatus). IsDamageOf s (IsFirstDamaged (count_of c.args.disks) (views g.D.Disk.view c.args.disks))) (sym (c.refuse-in-NotOpened.ensures.status ∙ c.refused_as.ensures))
    (refused_damage (count_of c.args.disks) (views g.D.Disk.view c.args.disks) (views g.D.Disk.view c.in-NotOpened.disks) c.in-NotOpened.disk c.in-NotOpened.why (c.in-NotOpened.ensures.ran told))

pub returns-in-NotOpened-clause-wrong_group_only : goal.returns-in-NotOpened-clause-wrong_group_only
returns-in-NotOpened-clause-wrong_group_only g c told =
    subst (λ (s : GroupsStatus). IsWrongGroupOf s (IsFirstWrong (count_of c.args.disks) (views g.D.Disk.view c.args.disks))) (sym (c.refuse-in-NotOpened.ensures.status ∙ c.refused_as.ensures))
    (refused_wrong (count_of c.args.disks) (views g.D.Disk.view c.args.disks) (views g.D.Disk.view c.in-NotOpened.disks) c.in-NotOpened.disk c.in-NotOpened.why (c.in-NotOpened.ensures.ran told))

pub returns-in-NotOpened-clause-damage : goal.returns-in-NotOpened-clause-damage
returns-in-NotOpened-clause-damage g c told disk damage first =
    subst (λ (s : GroupsStatus). IsOrEarlier s (Damaged disk damage) (DiskFault ∷ [])) (sym (c.refuse-in-NotOpened.ensures.status ∙ c.refused_as.ensures))
    (first_damage (count_of c.args.disks) (views g.D.Disk.view c.args.disks) (views g.D.Disk.view c.in-NotOpened.disks) c.in-NotOpened.disk c.in-NotOpened.why (c.in-NotOpened.ensures.ran told) disk damage first)

pub returns-in-NotOpened-clause-wrong_group : goal.returns-in-NotOpened-clause-wrong_group
returns-in-NotOpened-clause-wrong_group g c told disk region sound first =
    subst (λ (s : GroupsStatus). IsOrEarlier s (WrongGroup disk region) (DiskFault ∷ [])) (sym (c.refuse-in-NotOpened.ensures.status ∙ c.refused_as.ensures))
    (first_wrong (count_of c.args.disks) (views g.D.Disk.view c.args.disks) (views g.D.Disk.view c.in-NotOpened.disks) c.in-NotOpened.disk c.in-NotOpened.why (c.in-NotOpened.ensures.ran told) sound disk region first)

pub returns-in-NotOpened-clause-complete : goal.returns-in-NotOpened-clause-complete
returns-in-NotOpened-clause-complete g c told sound clear no_disk no_sink =
    subst IsComplete (sym (c.refuse-in-NotOpened.ensures.status ∙ c.refused_as.ensures))
    (refused_complete (count_of c.args.disks) (views g.D.Disk.view c.args.disks) (views g.D.Disk.view c.in-NotOpened.disks) c.in-NotOpened.disk _ c.in-NotOpened.why (c.in-NotOpened.ensures.ran told) sound clear
    c.in-NotOpened.ensures.cause no_disk)
