use Rattle.std.proofs.Common.{◌≡◌, ◌≤◌, length, take, vec_capacity}
use Rattle.region_calls.specs.Seeds.{lasts_of, bases_found}
use Rattle.region_calls.proofs.sowing.lasts_found.Given as goal

abbrev pub invariant-loop-one : goal.invariant-loop-one
invariant-loop-one l = (l.lasts.items ≡ lasts_of (bases_found (take l.one-index l.found))) × (length l.lasts.items ≡ l.one-index) × (length l.found ≤ vec_capacity l.lasts)
