use Rattle.std.proofs.Common.{◌≡◌, ◌++◌, List, [], length, vec_len}
use Rattle.std.specs.Vec.Iter.{into_iter_items, into_iter_len}
use Rattle.log_model.specs.declared.name.Name.{Name}
use Rattle.found_files.specs.declared.found.FoundStore.{FoundStore}
use Rattle.wal_split.specs.declared.flushed.RegionFlushed.{RegionFlushed}
use Rattle.wal_split.specs.declared.job.EditsJob.{EditsJob}
use Rattle.region_replay.specs.Dealt.{AreDealt}
use Rattle.region_replay.proofs.grouping.deal_kept.Given as goal

abbrev pub invariant-loop-entry : goal.invariant-loop-entry
invariant-loop-entry l = record {
  long : vec_len l.regions ≡ 64;
  dealt : (jobs : List EditsJob) (flushed : List RegionFlushed) (names : List Name) (stores : List FoundStore) → AreDealt jobs flushed names stores [] l.fn.regions.items → AreDealt jobs flushed names stores l.yielded l.regions.items;
  rest : l.yielded ++ into_iter_items l.entry-iterator ≡ l.fn.kept.items;
  len : into_iter_len l.entry-iterator ≡ length (into_iter_items l.entry-iterator);
}
