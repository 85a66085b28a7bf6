use Rattle.std.proofs.Common.{◌≡◌, ℕ, List, length}
use Rattle.entry_frame.specs.Feed.{IsFed}
use Rattle.log_file.proofs.read.Reading.take_whole.Given as goal

abbrev pub invariant-loop-entry : goal.invariant-loop-entry
invariant-loop-entry l = (l.self.feed.key ≡ l.fn.self.feed.key) × ((given : List ℕ) → IsFed l.fn.self.feed given l.fn.self.entries.items → IsFed l.self.feed given l.self.entries.items)

abbrev pub decreases-loop-entry : goal.decreases-loop-entry
decreases-loop-entry l = length l.self.feed.unread
