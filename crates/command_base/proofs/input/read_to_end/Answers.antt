use Rattle.std.proofs.Common.{◌∙◌, arith}
use Rattle.command_base.proofs.Pieces.{all_read, front_read}
use Rattle.command_base.proofs.input.read_to_end.Goals as goal

pub returns-then-branch-eq0-clause-bytes : goal.returns-then-branch-eq0-clause-bytes
returns-then-branch-eq0-clause-bytes g c told =
    all_read 16777217 _ c.read_more.new.text.items _ (c.loop-text.invariant.0.so_far told ∙ (c.in_ok-read_more.ensures.bytes told)) (c.in_ok-read_more.ensures.end told (omega (arith, c.if-branch-eq0.true)))
    (omega (arith, c.in_ok-read_more.ensures.count, c.in_ok-read_more.ensures.most, c.loop-text-test.true))

pub returns-clause-bytes : goal.returns-clause-bytes
returns-clause-bytes g c told = front_read 16777217 _ c.loop-text.text.items _ (c.loop-text.invariant.0.so_far told) (omega (arith, c.loop-text.invariant.1, c.loop-text-test.false))
