use Rattle.run_model.proofs.SpentLaws.{first_is_first}
use Rattle.run_model.proofs.laws.first_spent_is_first.Goals as goal

pub returns : goal.returns
returns c = first_is_first
