use Rattle.std.proofs.Common.{sym, arith}
use Rattle.store_compact.proofs.Covering.{one_covered, all_covered}
use Rattle.store_compact.proofs.range.range_of.Goals as goal

pub loop-store-preserved : goal.loop-store-preserved
loop-store-preserved c = one_covered c.args.stores.now c.loop-store.store-index c.store-item.result c.loop-store.from c.loop-store.to c.min-from.result c.max-to.result c.loop-store-test.true (sym c.store-item.is) c.min-from.ensures c.max-to.ensures c.loop-store.invariant

pub returns : goal.returns
returns c = all_covered c.args.stores.now c.loop-store.store-index c.loop-store.from c.loop-store.to (omega (arith, c.loop-store-test.false)) c.loop-store.invariant
