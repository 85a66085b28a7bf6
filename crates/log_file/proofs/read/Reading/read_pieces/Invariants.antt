use Rattle.std.proofs.Common.{◌≤◌, ◌-◌, IsTrue}
use Rattle.log_file.proofs.Going.{Going}
use Rattle.log_file.proofs.read.Reading.read_pieces.Given as goal

abbrev pub invariant-loop-at : goal.invariant-loop-at
invariant-loop-at g l =
    Going (IsTrue g.D.Disk.told) l.name (g.D.Disk.view l.fn.disk) (g.D.Disk.view l.disk) l.fn.self.feed.key l.self.feed l.self.entries.items l.at
    × (g.D.Disk.faults l.fn.disk ≤ g.D.Disk.faults l.disk) × (l.at ≤ l.size)

abbrev pub decreases-loop-at : goal.decreases-loop-at
decreases-loop-at g l = l.size - l.at
