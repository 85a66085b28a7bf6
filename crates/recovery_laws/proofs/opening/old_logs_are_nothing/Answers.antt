use Rattle.recovery_laws.proofs.Turns.{but_old}
use Rattle.recovery_laws.proofs.opening.old_logs_are_nothing.Goals as goal

pub returns : goal.returns
returns c = but_old
