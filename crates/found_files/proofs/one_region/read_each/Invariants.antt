use Rattle.std.proofs.Common.{◌≤◌, IsTrue, take}
use Rattle.found_files.specs.Found.{AreContents}
use Rattle.found_files.specs.Watching.{OnlyWatches}
use Rattle.found_files.proofs.one_region.read_each.Given as goal

abbrev pub invariant-loop-name : goal.invariant-loop-name
invariant-loop-name g l = record {
  read : AreContents (IsTrue g.D.Disk.told) (g.D.Disk.view l.fn.disk).files (take l.name-index l.names) l.found.entries.items l.found.stores.items;
  watches : IsTrue g.D.Disk.told → OnlyWatches (g.D.Disk.view l.fn.disk) (g.D.Disk.view l.disk);
  faults : g.D.Disk.faults l.fn.disk ≤ g.D.Disk.faults l.disk;
}
