use Rattle.chronicle_model.proofs.Grown.{later_behind}
use Rattle.chronicle_model.proofs.laws.later_entries_are_behind.Goals as goal

pub returns : goal.returns
returns c = later_behind
