use Rattle.std.proofs.Common.{◌≡◌, ◌++◌, length, map}
use Rattle.script_model.specs.Text.{words_of}
use Rattle.script_text.proofs.pieces.split_words.Given as goal

-- the words so far, and those of the rest
abbrev pub invariant-loop-rest : goal.invariant-loop-rest
invariant-loop-rest l = words_of l.fn.line ≡ map (λ w. w.now) l.words.items ++ words_of l.rest

abbrev pub decreases-loop-rest : goal.decreases-loop-rest
decreases-loop-rest l = length l.rest
