use Rattle.std.proofs.Common.{◌≡◌, ◌++◌, List, [], length, vec_len}
use Rattle.std.specs.Vec.Iter.{into_iter_items, into_iter_len}
use Rattle.log_model.specs.declared.name.Name.{Name}
use Rattle.wal_split.specs.declared.flushed.RegionFlushed.{RegionFlushed}
use Rattle.wal_split.specs.declared.job.EditsJob.{EditsJob}
use Rattle.region_replay.specs.Dealt.{AreDealt}
use Rattle.region_replay.proofs.grouping.deal_stores.Given as goal

abbrev pub invariant-loop-store : goal.invariant-loop-store
invariant-loop-store l = record {
  long : vec_len l.regions ≡ 64;
  dealt : (jobs : List EditsJob) (flushed : List RegionFlushed) (names : List Name) → AreDealt jobs flushed names [] [] l.fn.regions.items → AreDealt jobs flushed names l.yielded [] l.regions.items;
  rest : l.yielded ++ into_iter_items l.store-iterator ≡ l.fn.stores.items;
  len : into_iter_len l.store-iterator ≡ length (into_iter_items l.store-iterator);
}
