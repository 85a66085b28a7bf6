use Rattle.std.proofs.Common.{[], ◌∷◌, Err, sym, ap, subst}
use Rattle.disk_images.specs.Calls.{Rose}
use Rattle.script_model.specs.Script.{script_fault}
use Rattle.script_model.specs.declared.command.Command.TheVariants.{Run}
use Rattle.command_base.specs.Invocation.{invocation}
use Rattle.command_base.specs.Status.{IsOrEarlier}
use Rattle.command_base.specs.declared.status.Status.{Status}
use Rattle.command_base.specs.declared.status.Status.TheVariants.{Damaged, DiskFault, SourceFault}
use Rattle.command_base.proofs.Endings.{same_disk}
use Rattle.run_command.specs.Ends.{RunEnds, IsRunComplete}
use Rattle.run_command.proofs.Leaving.{stays_throughout}
use Rattle.run_command.proofs.Telling.{run_ends, run_leaves, run_end, run_script_right, run_source, wider, input_ends, input_first, input_complete}
use Rattle.run_command.proofs.command.run_script.Goals as goal

pub returns-in-Ok-clause-ends : goal.returns-in-Ok-clause-ends
returns-in-Ok-clause-ends g c told told_disk told_sink =
    run_ends c.in-Ok.script (g.S.Source.left c.args.source.now) (g.K.Sink.taken c.args.out.now) (g.K.Sink.taken c.run_parsed.new.out) (g.D.Disk.view c.args.disk) (g.D.Disk.view c.run_parsed.result.disk) _ _
    (c.in-Ok.ensures.says told) c.run_parsed.result.status c.run_parsed.ensures.status (c.run_parsed.ensures.ends told_disk told_sink)

pub returns-in-Ok-clause-leaves_disk : goal.returns-in-Ok-clause-leaves_disk
returns-in-Ok-clause-leaves_disk g c told leaves = run_leaves _ c.run_parsed.result.status c.run_parsed.ensures.status leaves

pub returns-in-Ok-clause-status : goal.returns-in-Ok-clause-status
returns-in-Ok-clause-status g c = run_end c.run_parsed.result.status c.run_parsed.ensures.status

pub returns-in-Ok-clause-script : goal.returns-in-Ok-clause-script
returns-in-Ok-clause-script g c told = run_script_right _ c.run_parsed.result.status c.run_parsed.ensures.status

pub returns-in-Ok-clause-damaged : goal.returns-in-Ok-clause-damaged
returns-in-Ok-clause-damaged g c told told_disk damage right not is = wider _ _ (c.run_parsed.ensures.damaged told_disk damage not is)

pub returns-in-Ok-clause-source_cause : goal.returns-in-Ok-clause-source_cause
returns-in-Ok-clause-source_cause g c is = absurd (run_source c.run_parsed.result.status c.run_parsed.ensures.status is)

pub returns-in-Ok-clause-complete : goal.returns-in-Ok-clause-complete
returns-in-Ok-clause-complete g c told told_disk right sound no_source no_disk no_sink = c.run_parsed.ensures.complete told_disk sound no_disk no_sink

pub returns-in-Err-clause-ends : goal.returns-in-Err-clause-ends
returns-in-Err-clause-ends g c told told_disk told_sink =
    let text = g.S.Source.left c.args.source.now in
    let had = g.K.Sink.taken c.args.out.now in
    let has = g.K.Sink.taken c.refuse.new.sink in
    let disk = g.D.Disk.view c.args.disk in
    let rose = Rose (g.D.Disk.faults c.args.disk) (g.D.Disk.faults c.args.disk) in
    let sank = Rose (g.K.Sink.faults c.args.out.now) (g.K.Sink.faults c.refuse.new.sink) in
    subst (λ (s : Status). RunEnds s (invocation text disk disk had has) rose sank) (sym c.refuse.ensures.status) (input_ends text had has disk rose sank c.in-Err.status c.in-Err.ensures.refused (c.refuse.ensures.prints told_sink))

pub returns-in-Err-clause-leaves_disk : goal.returns-in-Err-clause-leaves_disk
returns-in-Err-clause-leaves_disk g c told leaves = same_disk (g.D.Disk.view c.args.disk)

pub returns-in-Err-clause-damaged : goal.returns-in-Err-clause-damaged
returns-in-Err-clause-damaged g c told told_disk damage right not is =
    subst (λ (s : Status). IsOrEarlier s (Damaged damage) (SourceFault ∷ DiskFault ∷ [])) (sym c.refuse.ensures.status)
    (input_first (script_fault Run (g.S.Source.left c.args.source.now)) (Damaged damage) (DiskFault ∷ []) right c.in-Err.status c.in-Err.ensures.refused (c.in-Err.ensures.script told))

pub returns-in-Err-clause-complete : goal.returns-in-Err-clause-complete
returns-in-Err-clause-complete g c told told_disk right sound no_source no_disk no_sink =
    subst IsRunComplete (sym c.refuse.ensures.status)
    (input_complete (script_fault Run (g.S.Source.left c.args.source.now)) (Rose (g.S.Source.faults c.args.source.now) (g.S.Source.faults c.read_script.new.source)) right no_source c.in-Err.status c.in-Err.ensures.refused (c.in-Err.ensures.script told)
    (λ is. c.in-Err.ensures.cause (ap Err is)))

pub returns-in-Err-clause-any_moment : goal.returns-in-Err-clause-any_moment
returns-in-Err-clause-any_moment g c told = stays_throughout (g.D.Disk.view c.args.disk)
