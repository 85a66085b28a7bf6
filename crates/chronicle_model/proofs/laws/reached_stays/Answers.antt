use Rattle.chronicle_model.proofs.Grown.{reached_stays}
use Rattle.chronicle_model.proofs.laws.reached_stays.Goals as goal

pub returns : goal.returns
returns c = reached_stays
