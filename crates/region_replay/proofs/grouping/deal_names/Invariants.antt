use Rattle.std.proofs.Common.{◌≡◌, List, [], take, vec_len}
use Rattle.wal_split.specs.declared.flushed.RegionFlushed.{RegionFlushed}
use Rattle.wal_split.specs.declared.job.EditsJob.{EditsJob}
use Rattle.region_replay.specs.Dealt.{AreDealt}
use Rattle.region_replay.proofs.grouping.deal_names.Given as goal

abbrev pub invariant-loop-name : goal.invariant-loop-name
invariant-loop-name l = record {
  long : vec_len l.regions ≡ 64;
  dealt : (jobs : List EditsJob) (flushed : List RegionFlushed) → AreDealt jobs flushed [] [] [] l.fn.regions.items → AreDealt jobs flushed (take l.name-index l.names) [] [] l.regions.items;
}
