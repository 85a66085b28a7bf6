use Rattle.log_model.proofs.TextLaws.{one_text}
use Rattle.entry_frame.proofs.laws.text_is_one.Goals as goal

pub returns : goal.returns
returns c = one_text
