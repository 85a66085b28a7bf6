use Rattle.chronicle_model.proofs.Grown.{prolonged}
use Rattle.chronicle_model.proofs.laws.appending_prolongs.Goals as goal

pub returns : goal.returns
returns c = prolonged
