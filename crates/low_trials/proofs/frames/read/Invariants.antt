use Rattle.std.proofs.Common.{◌+◌, ◌≤◌, length}
use Rattle.low_trials.proofs.frames.read.Given as goal

abbrev pub invariant-loop-at : goal.invariant-loop-at
invariant-loop-at l = (l.from ≤ l.at) × (l.from ≤ length l.bytes) × (l.feed.at + length l.feed.unread ≤ l.from)
