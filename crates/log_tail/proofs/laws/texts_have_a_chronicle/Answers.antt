use Rattle.log_tail.proofs.Texts.{texts_have_one}
use Rattle.log_tail.proofs.laws.texts_have_a_chronicle.Goals as goal

pub returns : goal.returns
returns c = texts_have_one
