use Rattle.wal_split.proofs.Raising.{AreNone}
use Rattle.wal_split.proofs.flushed.none_flushed.Given as goal

abbrev pub invariant-loop-before : goal.invariant-loop-before
invariant-loop-before l = AreNone l._before l.flushed.items
