use Rattle.seq_accounting.proofs.LiveLaws.{flushes_are_few}
use Rattle.seq_accounting.proofs.laws.flushes_are_few.Goals as goal

pub returns : goal.returns
returns c = flushes_are_few
