use Rattle.recovery_laws.proofs.Proved.{copies_alike}
use Rattle.recovery_laws.proofs.laws.copies_add_nothing.Goals as goal

pub returns : goal.returns
returns c = copies_alike
