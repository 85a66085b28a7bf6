use Rattle.std.proofs.Common.{◌≡◌, ◌+◌, length}
use Rattle.low_trials.proofs.frames.give.Given as goal

abbrev pub invariant-loop-entry : goal.invariant-loop-entry
invariant-loop-entry l = l.feed.at + length l.feed.unread ≡ l.initial.feed.at + length l.initial.feed.unread

abbrev pub decreases-loop-entry : goal.decreases-loop-entry
decreases-loop-entry l = length l.feed.unread
