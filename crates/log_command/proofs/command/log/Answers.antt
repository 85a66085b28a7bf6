use Rattle.std.proofs.Common.{inl}
use Rattle.command_base.proofs.Endings.{no_moment}
use Rattle.log_command.specs.Logged.{LogMayLeave}
use Rattle.log_command.proofs.Ending.{input_refused, wider}
use Rattle.log_command.proofs.command.log.Goals as goal

pub returns-in-Ok-clause-full : goal.returns-in-Ok-clause-full
returns-in-Ok-clause-full g c told told_disk right name rest is = wider _ _ _ _ (c.log_script.ensures.full told_disk name rest is)

pub returns-in-Err-clause-ends : goal.returns-in-Err-clause-ends
returns-in-Err-clause-ends g c told told_disk told_sink =
    input_refused _ c.in-Err.status (g.S.Source.left c.args.source.now) _ _ _ _ _ c.refuse.ensures.status c.in-Err.ensures.refused (c.refuse.ensures.prints told_sink)

pub returns-in-Err-clause-any_moment : goal.returns-in-Err-clause-any_moment
returns-in-Err-clause-any_moment g c told told_disk =
    no_moment (LogMayLeave (g.S.Source.left c.args.source.now) (g.D.Disk.view c.args.disk.now)) (g.D.Disk.view c.args.disk.now) (λ J now. inl now)
