use Rattle.entry_frame.proofs.laws.text_is_not_damaged.Goals as goal

pub returns : goal.returns
returns c = λ key bytes es ended at text damaged. damaged.no_text es ended text
