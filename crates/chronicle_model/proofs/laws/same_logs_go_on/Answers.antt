use Rattle.chronicle_model.proofs.Grown.{same_logs}
use Rattle.chronicle_model.proofs.laws.same_logs_go_on.Goals as goal

pub returns : goal.returns
returns c = same_logs
