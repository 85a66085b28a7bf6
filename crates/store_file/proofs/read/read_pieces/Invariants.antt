use Rattle.std.proofs.Common.{◌≤◌, ◌-◌, length, IsTrue}
use Rattle.store_file.proofs.Filling.{Fills}
use Rattle.store_file.proofs.read.read_pieces.Given as goal

abbrev pub invariant-loop-at : goal.invariant-loop-at
invariant-loop-at g l = Fills (IsTrue g.D.Disk.told) l.name (g.D.Disk.view l.fn.disk) (g.D.Disk.view l.disk) l.into l.at × (g.D.Disk.faults l.fn.disk ≤ g.D.Disk.faults l.disk)

abbrev pub decreases-loop-at : goal.decreases-loop-at
decreases-loop-at g l = length l.initial.into - l.at
