use Rattle.std.proofs.Common.{◌≡◌, ◌+◌, ◌≤◌, IsTrue}
use Rattle.flush_snapshot.proofs.Going.{Going}
use Rattle.flush_snapshot.proofs.filling.fill_rows.Given as goal

abbrev pub invariant-loop-row : goal.invariant-loop-row
invariant-loop-row g l =
    Going (IsTrue g.D.Disk.told) l.fn.store l.store (g.D.Disk.view l.fn.disk) (g.D.Disk.view l.disk) l.rows l.row-index
    × (g.D.Disk.faults l.fn.disk ≤ g.D.Disk.faults l.disk)
    × (l.store.filled ≡ l.fn.store.filled + l.row-index)
