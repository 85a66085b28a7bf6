use Rattle.std.proofs.Common.{Err, map, ap}
use Rattle.load_run.proofs.Naming.{taken_words, wrong_words}
use Rattle.load_run.proofs.words.read_load_words.Goals as goal

pub returns-in-Ok-clause-named : goal.returns-in-Ok-clause-named
returns-in-Ok-clause-named c = taken_words (map (λ w. w.now) c.args.words.now) c.in-Ok.options c.in-Ok.ensures.taken c.in-Ok.ensures.said

pub returns-in-Err-Usage-clause-named : goal.returns-in-Err-Usage-clause-named
returns-in-Err-Usage-clause-named c = wrong_words (map (λ w. w.now) c.args.words.now) (c.in-Err-Usage.ensures.usage (ap Err c.in-Err-Usage.field-0-is))
