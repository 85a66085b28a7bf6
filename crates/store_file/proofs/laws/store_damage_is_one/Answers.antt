use Rattle.store_file.proofs.OneDamage.{one_place}
use Rattle.store_file.proofs.laws.store_damage_is_one.Goals as goal

pub returns : goal.returns
returns c = one_place
