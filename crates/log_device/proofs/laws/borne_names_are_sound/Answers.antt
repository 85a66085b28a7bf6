use Rattle.log_device.proofs.Bearing.{sound_by}
use Rattle.log_device.proofs.laws.borne_names_are_sound.Goals as goal

pub returns : goal.returns
returns c = sound_by
