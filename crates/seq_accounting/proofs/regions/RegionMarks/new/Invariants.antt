use Rattle.std.proofs.Common.{◌≡◌, [], replicate}
use Rattle.seq_accounting.proofs.regions.RegionMarks.new.Given as goal

abbrev pub invariant-loop : goal.invariant-loop
invariant-loop l = l.places.items ≡ replicate l.counter []
