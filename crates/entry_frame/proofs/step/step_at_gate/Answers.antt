use Rattle.std.proofs.Common.{refl, arith}
use Rattle.log_model.specs.LogText.{in_version}
use Rattle.entry_frame.specs.Feed.{key_of}
use Rattle.entry_frame.proofs.StepLaws.{too_long_more, not_whole}
use Rattle.entry_frame.proofs.step.step_at_gate.Goals as goal

pub returns-then-len-gt1048576 : goal.returns-then-len-gt1048576
returns-then-len-gt1048576 c =
    (refl, too_long_more (in_version c.args.version (key_of c.args.file)) c.args.count c.args.bytes.now c.if-bytes.false c.if-bytes-lt7.false (omega (arith, c.u32_at-len.ensures)))

pub returns-then-bytes-len : goal.returns-then-bytes-len
returns-then-bytes-len c =
    (refl, not_whole (in_version c.args.version (key_of c.args.file)) c.args.count c.args.bytes.now c.if-bytes.false (omega arith) (λ le. omega (arith, c.u32_at-len.ensures)))
