use Rattle.log_model.proofs.DamageLaws.{sound_undamaged}
use Rattle.log_model.proofs.laws.sound_is_undamaged.Goals as goal

pub returns : goal.returns
returns c = sound_undamaged
