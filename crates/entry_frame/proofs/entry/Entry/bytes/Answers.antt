use Rattle.std.proofs.Common.{◌∙◌, length, ap, arith}
use Rattle.log_model.specs.Entry.{entry_frame}
use Rattle.log_model.proofs.FrameLaws.{length-body}
use Rattle.entry_frame.proofs.entry.Entry.bytes.Goals as goal

pub returns-clause-spelled : goal.returns-clause-spelled
returns-clause-spelled c = c.self.invariant.1 ∙ ap entry_frame c.self.view_is

pub returns-clause-within : goal.returns-clause-within
returns-clause-within c = omega (arith, ap length c.self.invariant.1, length-body (record { region = c.self.inside.region; number = c.self.inside.number; time = c.self.inside.time; batch = c.self.inside.batch }), c.self.invariant.0.batch.body)
