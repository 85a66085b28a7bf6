use Rattle.std.proofs.Common.{sym, ap, ◌∙◌}
use Rattle.entry_frame.specs.Feed.{Feeding}
use Rattle.entry_frame.proofs.FeedLaws.{ended_goes_on}
use Rattle.entry_frame.proofs.feed.Feed.give.Goals as goal

pub returns-in-Ended-clause-given : goal.returns-in-Ended-clause-given
returns-in-Ended-clause-given c = λ given taken h. ended_goes_on c.args.self.now c.in-Ended.field-0 (ap (λ (f : Feeding). f.phase) (sym c.self.view_is) ∙ c.in-Ended.is) given c.args.piece.now taken h
