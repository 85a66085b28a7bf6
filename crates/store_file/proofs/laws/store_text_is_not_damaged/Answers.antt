use Rattle.log_model.proofs.StoreLaws.{not_damaged}
use Rattle.store_file.proofs.laws.store_text_is_not_damaged.Goals as goal

pub returns : goal.returns
returns c = not_damaged
