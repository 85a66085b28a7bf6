use Rattle.std.proofs.Common.{◌≡◌, flat_map}
use Rattle.found_files.specs.Dealt.{entries_in}
use Rattle.found_files.proofs.by_region.join.Given as goal

abbrev pub invariant-loop-list : goal.invariant-loop-list
invariant-loop-list l = l.all.items ≡ flat_map entries_in l.yielded
