use Rattle.log_tail.proofs.Texts.{fit_have_one}
use Rattle.log_tail.proofs.laws.fit_files_have_a_chronicle.Goals as goal

pub returns : goal.returns
returns c = fit_have_one
