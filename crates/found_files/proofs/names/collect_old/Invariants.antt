use Rattle.std.proofs.Common.{ℕ, ◌↔◌, Contains, take}
use Rattle.found_files.specs.Names.{HasOld}
use Rattle.found_files.proofs.names.collect_old.Given as goal

abbrev pub invariant-loop-name : goal.invariant-loop-name
invariant-loop-name l = (n : ℕ) → Contains l.numbers.items n ↔ HasOld (take l.name-index l.names) n
