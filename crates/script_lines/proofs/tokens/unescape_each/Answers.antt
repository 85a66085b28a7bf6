use Rattle.std.proofs.lemmas.List.{take_rest}
use Rattle.script_lines.proofs.WordLaws.{unescaped_more}
use Rattle.script_lines.proofs.tokens.unescape_each.Goals as goal

pub loop-rest-preserved : goal.loop-rest-preserved
loop-rest-preserved c = unescaped_more c.args.word.now c.loop-rest.bytes.items c.push.new.self.items c.loop-rest.rest.now _ c.in-Some.b c.in-Some.n c.loop-rest.invariant c.in-Some.ensures.value c.in_ok-push.ensures.items (take_rest c.loop-rest.rest.now c.in-Some.n)
