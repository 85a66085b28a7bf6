use Rattle.mask_model.proofs.Again.{readers_see_the_same}
use Rattle.mask_model.proofs.laws.compacting_shows_the_same.Goals as goal

pub returns : goal.returns
returns c = readers_see_the_same
