use Rattle.mask_model.proofs.Passing.{shown_in_one_pass}
use Rattle.mask_model.proofs.laws.one_pass.Goals as goal

pub returns : goal.returns
returns c = shown_in_one_pass
