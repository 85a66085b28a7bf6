use Rattle.entry_frame.proofs.SpellingLaws.{one_entry}
use Rattle.entry_frame.proofs.laws.frame_is_one_entry.Goals as goal

pub returns : goal.returns
returns c = one_entry
