use Rattle.std.proofs.Common.{◌≡◌, Err, [], ◌∷◌, sym, ap, ◌∙◌, subst}
use Rattle.std.specs.FinMap.{keys}
use Rattle.log_model.specs.Files.{Files}
use Rattle.disk_images.specs.Calls.{Rose}
use Rattle.command_base.specs.Status.{refusal_line, IsComplete, IsNotEmpty, IsOrEarlier}
use Rattle.command_base.specs.declared.status.Status.{Status}
use Rattle.command_base.specs.declared.status.Status.TheVariants.{NotEmpty, DiskFault}
use Rattle.run_model.specs.Headline.{MayKeep}
use Rattle.command_base.proofs.Endings.{time_of, unchanged}
use Rattle.load_command.specs.Statuses.{IsLoadEnd}
use Rattle.run_command.specs.recover_command.Recovered.{IsStoreDamage}
use Rattle.load_command.proofs.Damages.{other_status, first_damage}
use Rattle.load_command.proofs.Running.{rose_then, ends_before, looked_only, moments_before, closed_load, closed_not_empty, closed_leaves, refused_first, refusal_end, refusal_sink, refusal_first, refusal_complete}
use Rattle.load_command.proofs.command.load.Goals as goal

pub load_empty-requires-clause-empty : goal.load_empty-requires-clause-empty
load_empty-requires-clause-empty g c κs within told = ap (λ (f : Files). keys f) (c.check_empty.ensures.looks told).files ∙ c.in-Ok.ensures.empty told

pub returns-in-Ok-clause-any_moment : goal.returns-in-Ok-clause-any_moment
returns-in-Ok-clause-any_moment g c told =
    moments_before (g.D.Disk.view c.args.disk) (g.D.Disk.view c.check_empty.new.disk) (g.D.Disk.view c.load_empty.result.disk) (c.check_empty.ensures.looks told) (c.load_empty.ensures.any_moment told)

pub returns-in-Ok-clause-ends : goal.returns-in-Ok-clause-ends
returns-in-Ok-clause-ends g c told sink script =
    ends_before c.load_empty.result.status c.args.options script (g.K.Sink.taken c.args.out.now) (g.K.Sink.taken c.load_empty.new.out)
    (g.D.Disk.view c.args.disk) (g.D.Disk.view c.check_empty.new.disk) (g.D.Disk.view c.load_empty.result.disk)
    (Rose (g.D.Disk.faults c.check_empty.new.disk) (g.D.Disk.faults c.load_empty.result.disk)) (Rose (g.D.Disk.faults c.args.disk) (g.D.Disk.faults c.load_empty.result.disk))
    (Rose (g.K.Sink.faults c.args.out.now) (g.K.Sink.faults c.load_empty.new.out))
    c.load_empty.ensures.status (c.check_empty.ensures.looks told)
    (time_of (MayKeep (g.D.Disk.view c.check_empty.new.disk)) (g.D.Disk.view c.check_empty.new.disk) (g.D.Disk.view c.load_empty.result.disk) (c.load_empty.ensures.any_moment told)) (λ rose. rose_then _ _ _ c.check_empty.ensures.cause.later rose) (c.load_empty.ensures.ends told sink script)

pub returns-in-Ok-clause-refusal : goal.returns-in-Ok-clause-refusal
returns-in-Ok-clause-refusal g c sink is text line = c.load_empty.ensures.refusal sink is text line

pub returns-in-Ok-clause-leaves_disk : goal.returns-in-Ok-clause-leaves_disk
returns-in-Ok-clause-leaves_disk g c told leaves = closed_leaves _ c.load_empty.result.status c.load_empty.ensures.status leaves

pub returns-in-Ok-clause-status : goal.returns-in-Ok-clause-status
returns-in-Ok-clause-status g c = closed_load c.load_empty.result.status c.load_empty.ensures.status

pub returns-in-Ok-clause-not_empty : goal.returns-in-Ok-clause-not_empty
returns-in-Ok-clause-not_empty g c told = closed_not_empty c.load_empty.result.status (g.D.Disk.view c.args.disk).files c.load_empty.ensures.status

pub returns-in-Ok-clause-full : goal.returns-in-Ok-clause-full
returns-in-Ok-clause-full g c told name rest is = let no : [] ≡ name ∷ rest = sym (c.in-Ok.ensures.empty told) ∙ is in absurd cc

pub returns-in-Ok-clause-disk_cause : goal.returns-in-Ok-clause-disk_cause
returns-in-Ok-clause-disk_cause g c is = rose_then _ _ _ c.check_empty.ensures.cause.later (c.load_empty.ensures.disk_cause is)

pub returns-in-Ok-clause-complete : goal.returns-in-Ok-clause-complete
returns-in-Ok-clause-complete g c told none disk sink = c.load_empty.ensures.complete told (λ rose. disk (rose_then _ _ _ c.check_empty.ensures.cause.later rose)) sink

pub returns-in-Err-clause-any_moment : goal.returns-in-Err-clause-any_moment
returns-in-Err-clause-any_moment g c told = looked_only (g.D.Disk.view c.args.disk) (g.D.Disk.view c.check_empty.new.disk) (c.check_empty.ensures.looks told)

pub returns-in-Err-clause-ends : goal.returns-in-Err-clause-ends
returns-in-Err-clause-ends g c told sink script =
    refused_first c.in-Err.status c.refuse.result c.args.options script (g.K.Sink.taken c.args.out.now) (g.K.Sink.taken c.refuse.new.sink) (g.D.Disk.view c.args.disk) (g.D.Disk.view c.check_empty.new.disk) _ _
    c.refuse.ensures.status c.in-Err.ensures.refused (c.check_empty.ensures.looks told) (c.refuse.ensures.prints sink)

pub returns-in-Err-clause-refusal : goal.returns-in-Err-clause-refusal
returns-in-Err-clause-refusal g c sink is text line = c.refuse.ensures.prints sink text (ap refusal_line (sym c.refuse.ensures.status) ∙ line)

pub returns-in-Err-clause-leaves_disk : goal.returns-in-Err-clause-leaves_disk
returns-in-Err-clause-leaves_disk g c told leaves = unchanged (g.D.Disk.view c.args.disk) (g.D.Disk.view c.check_empty.new.disk) (c.check_empty.ensures.looks told)

pub returns-in-Err-clause-status : goal.returns-in-Err-clause-status
returns-in-Err-clause-status g c = subst IsLoadEnd (sym c.refuse.ensures.status) (refusal_end c.in-Err.status c.in-Err.ensures.refused)

pub returns-in-Err-clause-not_empty : goal.returns-in-Err-clause-not_empty
returns-in-Err-clause-not_empty g c told = subst (λ (s : Status). IsNotEmpty s (g.D.Disk.view c.args.disk).files) (sym c.refuse.ensures.status) (c.in-Err.ensures.not_empty told)

pub returns-in-Err-clause-full : goal.returns-in-Err-clause-full
returns-in-Err-clause-full g c told name rest is =
    subst (λ (s : Status). IsOrEarlier s (NotEmpty name) (DiskFault ∷ [])) (sym c.refuse.ensures.status)
    (refusal_first c.in-Err.status (g.D.Disk.view c.args.disk).files name rest c.in-Err.ensures.refused (c.in-Err.ensures.not_empty told) is)

pub returns-in-Err-clause-disk_cause : goal.returns-in-Err-clause-disk_cause
returns-in-Err-clause-disk_cause g c is = c.in-Err.ensures.cause.risen (ap Err (sym c.refuse.ensures.status ∙ is))

pub returns-in-Err-clause-sink_cause : goal.returns-in-Err-clause-sink_cause
returns-in-Err-clause-sink_cause g c is = absurd (refusal_sink c.in-Err.status c.in-Err.ensures.refused (sym c.refuse.ensures.status ∙ is))

pub returns-in-Err-clause-complete : goal.returns-in-Err-clause-complete
returns-in-Err-clause-complete g c told none disk sink =
    subst IsComplete (sym c.refuse.ensures.status)
    (refusal_complete c.in-Err.status (g.D.Disk.view c.args.disk).files c.in-Err.ensures.refused (c.in-Err.ensures.not_empty told) none (λ is. disk (c.in-Err.ensures.cause.risen (ap Err is))))

pub returns-in-Ok-clause-damage : goal.returns-in-Ok-clause-damage
returns-in-Ok-clause-damage g c told = c.load_empty.ensures.damage told

pub returns-in-Err-clause-damage : goal.returns-in-Err-clause-damage
returns-in-Err-clause-damage g c told =
    other_status c.refuse.result c.in-Err.status (IsStoreDamage (g.D.Disk.view c.check_empty.new.disk).files) c.refuse.ensures.status
    (first_damage c.in-Err.status (IsStoreDamage (g.D.Disk.view c.check_empty.new.disk).files) c.in-Err.ensures.refused)
