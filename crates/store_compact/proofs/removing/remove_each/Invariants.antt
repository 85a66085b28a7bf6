use Rattle.std.proofs.Common.{◌≤◌, IsTrue}
use Rattle.store_compact.proofs.Leaving.{Going}
use Rattle.store_compact.proofs.removing.remove_each.Given as goal

abbrev pub invariant-loop-name : goal.invariant-loop-name
invariant-loop-name g l =
    Going (IsTrue g.D.Disk.told) (g.D.Disk.view l.fn.disk) (g.D.Disk.view l.disk) l.names l.name-index
    × (g.D.Disk.faults l.fn.disk ≤ g.D.Disk.faults l.disk)
