use Rattle.std.proofs.Common.{take}
use Rattle.found_files.specs.Counting.{AreFirstNumbers}
use Rattle.found_files.proofs.counting.first_numbers.Given as goal

abbrev pub invariant-loop-store : goal.invariant-loop-store
invariant-loop-store l = AreFirstNumbers (take l.store-index l.stores) l.first.items
