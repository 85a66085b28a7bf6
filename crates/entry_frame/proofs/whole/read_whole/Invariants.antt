use Rattle.std.proofs.Common.{◌≡◌, length}
use Rattle.entry_frame.specs.Feed.{key_of, IsFed}
use Rattle.entry_frame.proofs.whole.read_whole.Given as goal

-- the feed was given all, and the entries were taken
abbrev pub invariant-loop-entries : goal.invariant-loop-entries
invariant-loop-entries l = record { key : l.feed.key ≡ key_of l.fn.file; fed : IsFed l.feed l.bytes l.entries.items }

abbrev pub decreases-loop-entries : goal.decreases-loop-entries
decreases-loop-entries l = length l.feed.unread
