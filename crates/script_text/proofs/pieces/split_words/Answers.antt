use Rattle.std.proofs.Common.{arith}
use Rattle.std.proofs.lemmas.Bool.Decides.{nat_tests}
use Rattle.script_text.proofs.TextLaws.{words_at, pushed}
use Rattle.script_text.proofs.pieces.split_words.Goals as goal

pub loop-rest-preserved-in_ok-push : goal.loop-rest-preserved-in_ok-push
loop-rest-preserved-in_ok-push c =
    pushed (λ w. w.now) c.loop-rest.words.items c.push.new.self.items c.cut.result.0 _ _ _ c.in_ok-push.ensures.items c.loop-rest.invariant
    (words_at c.loop-rest.rest.now c.cut.result.0.now c.cut.result.1.now c.cut.ensures.at c.cut.ensures.before c.cut.ensures.found (grind (arith, nat_tests)))
