use Rattle.log_ledger.specs.declared.base.RegionBase.{RegionBase}
use Rattle.log_ledger.proofs.Bases.{AreNumbersTo}
use Rattle.log_ledger.proofs.base.flushed_of.Given as goal

abbrev pub invariant-loop-base : goal.invariant-loop-base
invariant-loop-base l = AreNumbersTo (λ (m : RegionBase). m.flushed) l.regions l.base-index l.flushed
