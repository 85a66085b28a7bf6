use Rattle.recovery_laws.proofs.OpeningProved.{hidden}
use Rattle.recovery_laws.proofs.opening.hidden_store_is_nothing.Goals as goal

pub returns : goal.returns
returns c = hidden
