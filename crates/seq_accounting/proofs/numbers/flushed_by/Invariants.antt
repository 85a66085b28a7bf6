use Rattle.seq_accounting.proofs.RegionLaws.{AreFlushedTo}
use Rattle.seq_accounting.proofs.numbers.flushed_by.Given as goal

abbrev pub invariant-loop-mark : goal.invariant-loop-mark
invariant-loop-mark l = AreFlushedTo l.regions l.mark-index l.flushed
