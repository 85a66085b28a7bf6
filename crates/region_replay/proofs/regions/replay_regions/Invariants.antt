use Rattle.std.proofs.Common.{◌≡◌, ◌≤◌, ◌++◌, length, IsTrue}
use Rattle.std.specs.Vec.Iter.{into_iter_items, into_iter_len}
use Rattle.region_replay.proofs.InTurn.{Going}
use Rattle.region_replay.proofs.regions.replay_regions.Given as goal

abbrev pub invariant-loop-region : goal.invariant-loop-region
invariant-loop-region g l = record {
  so_far : Going (IsTrue g.D.Disk.told) (g.D.Disk.view l.fn.disk) (g.D.Disk.view l.disk) l.fn.regions.items l.yielded (into_iter_items l.region-iterator) l.replayed.items;
  rest : l.yielded ++ into_iter_items l.region-iterator ≡ l.fn.regions.items;
  len : into_iter_len l.region-iterator ≡ length (into_iter_items l.region-iterator);
  count : length l.replayed.items ≡ length l.yielded;
  later : g.D.Disk.faults l.fn.disk ≤ g.D.Disk.faults l.disk;
}
