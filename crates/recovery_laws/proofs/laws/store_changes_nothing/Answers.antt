use Rattle.recovery_laws.proofs.Proved.{store_alike}
use Rattle.recovery_laws.proofs.laws.store_changes_nothing.Goals as goal

pub returns : goal.returns
returns c = store_alike
