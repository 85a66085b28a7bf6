use Rattle.std.proofs.Common.{take}
use Rattle.region_replay.specs.Regions.{IsTop}
use Rattle.region_replay.proofs.gathering.last_number.Given as goal

abbrev pub invariant-loop-entry : goal.invariant-loop-entry
invariant-loop-entry l = IsTop (take l.entry-index l.entries) l.low l.last
