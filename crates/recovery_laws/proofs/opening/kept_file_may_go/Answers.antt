use Rattle.recovery_laws.proofs.OpeningProved.{kept_may_go}
use Rattle.recovery_laws.proofs.opening.kept_file_may_go.Goals as goal

pub returns : goal.returns
returns c = kept_may_go
