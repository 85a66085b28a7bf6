use Rattle.chronicle_model.proofs.Grown.{one_chronicle}
use Rattle.chronicle_model.proofs.laws.chronicle_is_one.Goals as goal

pub returns : goal.returns
returns c = one_chronicle
