use Rattle.std.proofs.Common.{take}
use Rattle.store_compact.proofs.Covering.{Going}
use Rattle.store_compact.proofs.range.range_of.Given as goal

abbrev pub invariant-loop-store : goal.invariant-loop-store
invariant-loop-store l = Going l.stores (take l.store-index l.stores) l.from l.to
