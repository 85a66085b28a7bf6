use Rattle.mask_model.proofs.Limit.{has_no_limit}
use Rattle.mask_model.proofs.laws.no_limit.Goals as goal

pub returns : goal.returns
returns c = has_no_limit
