use Rattle.recovery_laws.proofs.OpeningProved.{replayed}
use Rattle.recovery_laws.proofs.opening.replay_changes_nothing.Goals as goal

pub returns : goal.returns
returns c = replayed
