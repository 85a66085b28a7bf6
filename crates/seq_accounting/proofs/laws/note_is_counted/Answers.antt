use Rattle.seq_accounting.proofs.LiveLaws.{note_is_counted}
use Rattle.seq_accounting.proofs.laws.note_is_counted.Goals as goal

pub returns : goal.returns
returns c = note_is_counted
