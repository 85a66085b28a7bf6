use Rattle.std.proofs.Common.{◌+◌, arith}
use Rattle.script_lines.proofs.WordLaws.{not_number_over, value_more}
use Rattle.script_lines.proofs.numbers.number.Goals as goal

pub returns-then-n-gt18446744073709551615 : goal.returns-then-n-gt18446744073709551615
returns-then-n-gt18446744073709551615 c =
    not_number_over c.args.word.now (c.loop-b.b-index + 1) (omega (arith, value_more c.args.word.now c.loop-b.b-index (omega arith), c.loop-b.invariant.value))
