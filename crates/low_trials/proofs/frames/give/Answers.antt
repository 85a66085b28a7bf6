use Rattle.entry_frame.proofs.FeedLaws.{none_is_drained}
use Rattle.low_trials.proofs.frames.give.Goals as goal

pub returns-clause-drained : goal.returns-clause-drained
returns-clause-drained c = none_is_drained c.in_ok-entry.field-0 c.in_ok-entry.ensures.drained c.in_default.not-Some
