use Rattle.log_model.proofs.TextLaws.{one_damage}
use Rattle.entry_frame.proofs.laws.damage_is_one.Goals as goal

pub returns : goal.returns
returns c = one_damage
