use Rattle.recovery_laws.proofs.OpeningProved.{copies_nothing}
use Rattle.recovery_laws.proofs.opening.copies_change_nothing.Goals as goal

pub returns : goal.returns
returns c = copies_nothing
