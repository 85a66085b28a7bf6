use Rattle.std.proofs.Common.{◌≡◌, ◌<◌, ◌++◌, ℕ, length, get_or}
use Rattle.std.specs.Vec.Iter.{into_iter_items}
use Rattle.wal_split.specs.declared.flushed.RegionFlushed.{RegionFlushed}
use Rattle.region_replay.specs.Dealt.{AreBegun}
use Rattle.region_replay.proofs.grouping.begin_regions.Given as goal

abbrev pub invariant-loop-job : goal.invariant-loop-job
invariant-loop-job l = record {
  begun : AreBegun l.yielded l.fn.flushed.items l.regions.items;
  rest : l.yielded ++ into_iter_items l.job-iterator ≡ l.fn.jobs.items;
  long : length l.flushed.items ≡ 65;
  same : (r : ℕ) (u : RegionFlushed) → length l.yielded < r → get_or l.flushed.items r u ≡ get_or l.fn.flushed.items r u;
}
