use Rattle.flush_snapshot.proofs.Holds.{cut_holds}
use Rattle.flush_snapshot.proofs.laws.cut_holds_its_content.Goals as goal

pub returns : goal.returns
returns c = cut_holds
