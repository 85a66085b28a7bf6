use Rattle.std.proofs.Common.{◌≡◌, take}
use Rattle.region_replay.specs.Alone.{edits_among}
use Rattle.region_replay.proofs.alone.edits_of.Given as goal

abbrev pub invariant-loop-name : goal.invariant-loop-name
invariant-loop-name l = l.edits.items ≡ edits_among (take l.name-index l.names)
