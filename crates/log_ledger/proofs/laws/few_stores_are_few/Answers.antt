use Rattle.log_ledger.proofs.Few.{few_are_few}
use Rattle.log_ledger.proofs.laws.few_stores_are_few.Goals as goal

pub returns : goal.returns
returns c = few_are_few
