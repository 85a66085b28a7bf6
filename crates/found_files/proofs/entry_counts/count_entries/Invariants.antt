use Rattle.std.proofs.Common.{take}
use Rattle.found_files.specs.Counted.{AreCounts}
use Rattle.found_files.proofs.entry_counts.count_entries.Given as goal

-- the entries so far
abbrev pub invariant-loop-entry : goal.invariant-loop-entry
invariant-loop-entry l = AreCounts (take l.entry-index l.entries) l.counts.items
