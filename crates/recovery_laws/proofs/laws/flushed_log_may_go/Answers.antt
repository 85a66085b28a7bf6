use Rattle.recovery_laws.proofs.Proved.{gone_alike}
use Rattle.recovery_laws.proofs.laws.flushed_log_may_go.Goals as goal

pub returns : goal.returns
returns c = gone_alike
