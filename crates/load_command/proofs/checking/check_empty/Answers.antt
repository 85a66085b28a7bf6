use Rattle.std.proofs.Common.{sym, ◌∙◌}
use Rattle.load_command.proofs.Lines.{head_of}
use Rattle.load_command.proofs.checking.check_empty.Goals as goal

pub returns-in-Ok-clause-not_empty : goal.returns-in-Ok-clause-not_empty
returns-in-Ok-clause-not_empty g c told = head_of _ _ _ (sym (c.in-Ok.ensures.names told) ∙ sym c.as_slice.ensures) c.in-len1-up.len_at_least
