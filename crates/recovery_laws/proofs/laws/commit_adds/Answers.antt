use Rattle.recovery_laws.proofs.Proved.{content_by_commit}
use Rattle.recovery_laws.proofs.laws.commit_adds.Goals as goal

pub returns : goal.returns
returns c = content_by_commit
