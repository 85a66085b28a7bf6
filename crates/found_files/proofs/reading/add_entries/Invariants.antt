use Rattle.std.proofs.Common.{◌≡◌, ◌++◌}
use Rattle.found_files.specs.Found.{placed}
use Rattle.found_files.proofs.reading.add_entries.Given as goal

abbrev pub invariant-loop-entry : goal.invariant-loop-entry
invariant-loop-entry l = l.into.items ≡ l.initial.into.items ++ placed l.name l.yielded
