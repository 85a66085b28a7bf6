use Rattle.recover_command.proofs.OneDamage.{one_told}
use Rattle.recover_command.proofs.laws.damage_is_told_once.Goals as goal

pub returns : goal.returns
returns c = one_told
