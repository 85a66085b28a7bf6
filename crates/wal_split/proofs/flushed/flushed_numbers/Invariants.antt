use Rattle.std.proofs.Common.{take}
use Rattle.wal_split.specs.Flushed.{AreFlushed}
use Rattle.wal_split.proofs.flushed.flushed_numbers.Given as goal

abbrev pub invariant-loop-store : goal.invariant-loop-store
invariant-loop-store l = AreFlushed (take l.store-index l.stores) l.flushed.items
