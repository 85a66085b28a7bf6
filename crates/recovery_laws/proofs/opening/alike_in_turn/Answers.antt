use Rattle.recovery_laws.proofs.Turns.{in_turn}
use Rattle.recovery_laws.proofs.opening.alike_in_turn.Goals as goal

pub returns : goal.returns
returns c = in_turn
