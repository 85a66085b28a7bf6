use Rattle.load_model.proofs.Puts.{each_is_counted_once}
use Rattle.load_model.proofs.laws.each_put_is_counted_once.Goals as goal

pub returns : goal.returns
returns c = each_is_counted_once
