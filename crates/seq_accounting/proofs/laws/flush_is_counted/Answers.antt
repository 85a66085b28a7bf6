use Rattle.seq_accounting.proofs.LiveLaws.{flush_is_counted}
use Rattle.seq_accounting.proofs.laws.flush_is_counted.Goals as goal

pub returns : goal.returns
returns c = flush_is_counted
