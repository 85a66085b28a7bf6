use Rattle.log_tail.proofs.Behind.{goes_on}
use Rattle.log_tail.proofs.laws.reading_goes_on.Goals as goal

pub returns : goal.returns
returns c = goes_on
