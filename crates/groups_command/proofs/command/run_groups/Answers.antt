use Rattle.std.proofs.Common.{◌≡◌, ◌⊎◌, [], ◌∷◌, Contains, Some, Err, sym, ap, ◌∙◌, subst}
use Rattle.disk_images.specs.Calls.{Rose}
use Rattle.script_model.specs.Script.{script_fault}
use Rattle.script_model.specs.declared.command.Command.TheVariants.{Groups}
use Rattle.command_base.proofs.Endings.{same_disk, time_of}
use Rattle.run_command.proofs.Leaving.{stays_throughout}
use Rattle.run_model.specs.Headline.{MayKeep}
use Rattle.groups_run.specs.group_servers.group_lists.Lists.{count_of}
use Rattle.groups_run.specs.Found.{views}
use Rattle.groups_command.specs.Disks.{RoseAt, IsFirstDamaged, IsFirstWrong}
use Rattle.groups_command.specs.Ends.{groups_invocation, GroupsEnd}
use Rattle.groups_command.specs.Status.{refusal_line, IsScriptFault, IsScriptAt, IsDamageOf, IsWrongGroupOf, IsOrEarlier, IsComplete}
use Rattle.groups_command.specs.declared.status.GroupsStatus.{GroupsStatus}
use Rattle.groups_command.specs.declared.status.GroupsStatus.TheVariants.{Damaged, DiskFault, Memory, SourceFault, WrongGroup}
use Rattle.groups_command.proofs.Telling.{run_ends, run_leaves, run_script_right, run_source, run_usage, wider, input_shared, input_ends, input_script, input_source, input_disk, input_sink, input_usage, input_undamaged, input_right, input_first, input_complete, input_at, right_script}
use Rattle.groups_command.proofs.command.run_groups.Goals as goal

-- ---- with a script

pub returns-in-Ok-clause-ends : goal.returns-in-Ok-clause-ends
returns-in-Ok-clause-ends g c told told_disk told_sink =
    run_ends (count_of c.args.disks) c.in-Ok.script (g.S.Source.left c.args.script.now) (g.K.Sink.taken c.args.out.now) (g.K.Sink.taken c.run_parsed.new.out) (views g.D.Disk.view c.args.disks)
    (views g.D.Disk.view c.run_parsed.result.disks) _ _ (c.in-Ok.ensures.says told) c.run_parsed.result.status c.run_parsed.ensures.status (c.run_parsed.ensures.ends told_disk told_sink)

pub returns-in-Ok-clause-leaves_disks : goal.returns-in-Ok-clause-leaves_disks
returns-in-Ok-clause-leaves_disks g c told leaves = run_leaves _ c.run_parsed.result.status c.run_parsed.ensures.status leaves

pub returns-in-Ok-clause-moments : goal.returns-in-Ok-clause-moments
returns-in-Ok-clause-moments g c told k is =
    time_of (MayKeep (views g.D.Disk.view c.args.disks k)) (views g.D.Disk.view c.args.disks k) (views g.D.Disk.view c.run_parsed.result.disks k) (c.run_parsed.ensures.any_moment told k is)

pub returns-in-Ok-clause-usage_only : goal.returns-in-Ok-clause-usage_only
returns-in-Ok-clause-usage_only g c is = absurd (run_usage c.run_parsed.result.status c.run_parsed.ensures.status is)

pub returns-in-Ok-clause-script_only : goal.returns-in-Ok-clause-script_only
returns-in-Ok-clause-script_only g c told = run_script_right _ c.run_parsed.result.status c.run_parsed.ensures.status

pub returns-in-Ok-clause-source_cause : goal.returns-in-Ok-clause-source_cause
returns-in-Ok-clause-source_cause g c is = absurd (run_source c.run_parsed.result.status c.run_parsed.ensures.status is)

pub returns-in-Ok-clause-script : goal.returns-in-Ok-clause-script
returns-in-Ok-clause-script g c told line why named wrong = absurd (right_script _ line why (c.in-Ok.ensures.says told).right wrong)

pub returns-in-Ok-clause-damage : goal.returns-in-Ok-clause-damage
returns-in-Ok-clause-damage g c told told_disk disk damage named right first = wider _ _ (c.run_parsed.ensures.damage told_disk disk damage first)

pub returns-in-Ok-clause-wrong_group : goal.returns-in-Ok-clause-wrong_group
returns-in-Ok-clause-wrong_group g c told told_disk disk region named right sound first = wider _ _ (c.run_parsed.ensures.wrong_group told_disk disk region sound first)

pub returns-in-Ok-clause-complete : goal.returns-in-Ok-clause-complete
returns-in-Ok-clause-complete g c told told_disk named right sound clear no_source no_disk no_sink = c.run_parsed.ensures.complete told_disk sound clear no_disk no_sink

-- ---- without one

pub status_of-requires : goal.status_of-requires
status_of-requires g c = input_shared c.in-Err.status c.in-Err.ensures.refused

pub returns-in-Err-clause-ends : goal.returns-in-Err-clause-ends
returns-in-Err-clause-ends g c told told_disk told_sink =
    subst (λ (s : GroupsStatus). GroupsEnd s (groups_invocation (count_of c.args.disks) (g.S.Source.left c.args.script.now) (views g.D.Disk.view c.args.disks) (views g.D.Disk.view c.args.disks)
    (g.K.Sink.taken c.args.out.now) (g.K.Sink.taken c.refuse-in-Err.new.out)) (RoseAt g.D.Disk.faults c.args.disks c.args.disks) (Rose (g.K.Sink.faults c.args.out.now) (g.K.Sink.faults c.refuse-in-Err.new.out)))
    (sym (c.refuse-in-Err.ensures.status ∙ c.status_of.ensures))
    (input_ends (count_of c.args.disks) (g.S.Source.left c.args.script.now) (g.K.Sink.taken c.args.out.now) (g.K.Sink.taken c.refuse-in-Err.new.out) (views g.D.Disk.view c.args.disks) _ _
    c.in-Err.status c.in-Err.ensures.refused (λ line is. c.refuse-in-Err.ensures.prints told_sink line (ap refusal_line c.status_of.ensures ∙ is)))

pub returns-in-Err-clause-refusal : goal.returns-in-Err-clause-refusal
returns-in-Err-clause-refusal g c sink refuses text is = c.refuse-in-Err.ensures.prints sink text (ap refusal_line (sym c.refuse-in-Err.ensures.status) ∙ is)

pub returns-in-Err-clause-leaves_disks : goal.returns-in-Err-clause-leaves_disks
returns-in-Err-clause-leaves_disks g c told leaves k is = same_disk (views g.D.Disk.view c.args.disks k)

pub returns-in-Err-clause-moments : goal.returns-in-Err-clause-moments
returns-in-Err-clause-moments g c told k is =
    time_of (MayKeep (views g.D.Disk.view c.args.disks k)) (views g.D.Disk.view c.args.disks k) (views g.D.Disk.view c.args.disks k) (stays_throughout (views g.D.Disk.view c.args.disks k))

pub returns-in-Err-clause-any_moment : goal.returns-in-Err-clause-any_moment
returns-in-Err-clause-any_moment g c told k is = stays_throughout (views g.D.Disk.view c.args.disks k)

pub returns-in-Err-clause-damage_leaves : goal.returns-in-Err-clause-damage_leaves
returns-in-Err-clause-damage_leaves g c told =
    subst (λ (s : GroupsStatus). IsDamageOf s (λ disk damage. (views g.D.Disk.view c.args.disks disk).files ≡ (views g.D.Disk.view c.args.disks disk).files)) (sym (c.refuse-in-Err.ensures.status ∙ c.status_of.ensures)) (input_undamaged _ c.in-Err.status c.in-Err.ensures.refused)

pub returns-in-Err-clause-damage_only : goal.returns-in-Err-clause-damage_only
returns-in-Err-clause-damage_only g c told =
    subst (λ (s : GroupsStatus). IsDamageOf s (IsFirstDamaged (count_of c.args.disks) (views g.D.Disk.view c.args.disks))) (sym (c.refuse-in-Err.ensures.status ∙ c.status_of.ensures)) (input_undamaged _ c.in-Err.status c.in-Err.ensures.refused)

pub returns-in-Err-clause-wrong_group_only : goal.returns-in-Err-clause-wrong_group_only
returns-in-Err-clause-wrong_group_only g c told =
    subst (λ (s : GroupsStatus). IsWrongGroupOf s (IsFirstWrong (count_of c.args.disks) (views g.D.Disk.view c.args.disks))) (sym (c.refuse-in-Err.ensures.status ∙ c.status_of.ensures)) (input_right _ c.in-Err.status c.in-Err.ensures.refused)

pub returns-in-Err-clause-usage_only : goal.returns-in-Err-clause-usage_only
returns-in-Err-clause-usage_only g c is = absurd (input_usage c.in-Err.status c.in-Err.ensures.refused (sym (c.refuse-in-Err.ensures.status ∙ c.status_of.ensures) ∙ is))

pub returns-in-Err-clause-script_only : goal.returns-in-Err-clause-script_only
returns-in-Err-clause-script_only g c told =
    subst (λ (s : GroupsStatus). IsScriptFault s (λ line why. script_fault Groups (g.S.Source.left c.args.script.now) ≡ Some (line, why))) (sym (c.refuse-in-Err.ensures.status ∙ c.status_of.ensures)) (input_script _ c.in-Err.status c.in-Err.ensures.refused (c.in-Err.ensures.script told))

pub returns-in-Err-clause-source_cause : goal.returns-in-Err-clause-source_cause
returns-in-Err-clause-source_cause g c is =
    c.in-Err.ensures.cause (ap Err (input_source c.in-Err.status c.in-Err.ensures.refused (sym (c.refuse-in-Err.ensures.status ∙ c.status_of.ensures) ∙ is)))

pub returns-in-Err-clause-disk_cause : goal.returns-in-Err-clause-disk_cause
returns-in-Err-clause-disk_cause g c is = absurd (input_disk c.in-Err.status c.in-Err.ensures.refused (sym (c.refuse-in-Err.ensures.status ∙ c.status_of.ensures) ∙ is))

pub returns-in-Err-clause-sink_cause : goal.returns-in-Err-clause-sink_cause
returns-in-Err-clause-sink_cause g c is = absurd (input_sink c.in-Err.status c.in-Err.ensures.refused (sym (c.refuse-in-Err.ensures.status ∙ c.status_of.ensures) ∙ is))

pub returns-in-Err-clause-script : goal.returns-in-Err-clause-script
returns-in-Err-clause-script g c told line why named wrong =
    subst (λ (s : GroupsStatus). IsScriptAt s line why ⊎ Contains (Memory ∷ SourceFault ∷ []) s) (sym (c.refuse-in-Err.ensures.status ∙ c.status_of.ensures))
    (input_at (script_fault Groups (g.S.Source.left c.args.script.now)) line why wrong c.in-Err.status c.in-Err.ensures.refused (c.in-Err.ensures.script told))

pub returns-in-Err-clause-damage : goal.returns-in-Err-clause-damage
returns-in-Err-clause-damage g c told told_disk disk damage named right first =
    subst (λ (s : GroupsStatus). IsOrEarlier s (Damaged disk damage) (SourceFault ∷ DiskFault ∷ [])) (sym (c.refuse-in-Err.ensures.status ∙ c.status_of.ensures))
    (input_first (script_fault Groups (g.S.Source.left c.args.script.now)) (Damaged disk damage) (DiskFault ∷ []) right c.in-Err.status c.in-Err.ensures.refused (c.in-Err.ensures.script told))

pub returns-in-Err-clause-wrong_group : goal.returns-in-Err-clause-wrong_group
returns-in-Err-clause-wrong_group g c told told_disk disk region named right sound first =
    subst (λ (s : GroupsStatus). IsOrEarlier s (WrongGroup disk region) (SourceFault ∷ DiskFault ∷ [])) (sym (c.refuse-in-Err.ensures.status ∙ c.status_of.ensures))
    (input_first (script_fault Groups (g.S.Source.left c.args.script.now)) (WrongGroup disk region) (DiskFault ∷ []) right c.in-Err.status c.in-Err.ensures.refused (c.in-Err.ensures.script told))

pub returns-in-Err-clause-complete : goal.returns-in-Err-clause-complete
returns-in-Err-clause-complete g c told told_disk named right sound clear no_source no_disk no_sink =
    subst IsComplete (sym (c.refuse-in-Err.ensures.status ∙ c.status_of.ensures))
    (input_complete (script_fault Groups (g.S.Source.left c.args.script.now)) (Rose (g.S.Source.faults c.args.script.now) (g.S.Source.faults c.read_script.new.source)) right no_source c.in-Err.status
    c.in-Err.ensures.refused (c.in-Err.ensures.script told) (λ is. c.in-Err.ensures.cause (ap Err is)))

-- ---- other words

pub returns-then-not-name_disks-clause-ends : goal.returns-then-not-name_disks-clause-ends
returns-then-not-name_disks-clause-ends g c told told_disk told_sink =
    subst (λ (s : GroupsStatus). GroupsEnd s (groups_invocation (count_of c.args.disks) (g.S.Source.left c.args.script.now) (views g.D.Disk.view c.args.disks) (views g.D.Disk.view c.args.disks)
    (g.K.Sink.taken c.args.out.now) (g.K.Sink.taken c.refuse.new.out)) (RoseAt g.D.Disk.faults c.args.disks c.args.disks) (Rose (g.K.Sink.faults c.args.out.now) (g.K.Sink.faults c.refuse.new.out)))
    (sym c.refuse.ensures.status) tt

pub returns-then-not-name_disks-clause-leaves_disks : goal.returns-then-not-name_disks-clause-leaves_disks
returns-then-not-name_disks-clause-leaves_disks g c told leaves k is = same_disk (views g.D.Disk.view c.args.disks k)

pub returns-then-not-name_disks-clause-moments : goal.returns-then-not-name_disks-clause-moments
returns-then-not-name_disks-clause-moments g c told k is =
    time_of (MayKeep (views g.D.Disk.view c.args.disks k)) (views g.D.Disk.view c.args.disks k) (views g.D.Disk.view c.args.disks k) (stays_throughout (views g.D.Disk.view c.args.disks k))

pub returns-then-not-name_disks-clause-any_moment : goal.returns-then-not-name_disks-clause-any_moment
returns-then-not-name_disks-clause-any_moment g c told k is = stays_throughout (views g.D.Disk.view c.args.disks k)
