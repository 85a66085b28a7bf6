use Rattle.std.proofs.Common.{◌≡◌, take}
use Rattle.wal_split.specs.Numbers.{logs_of}
use Rattle.wal_split.proofs.numbering.log_numbers.Given as goal

abbrev pub invariant-loop-name : goal.invariant-loop-name
invariant-loop-name l = l.numbers.items ≡ logs_of (take l.name-index l.names)
