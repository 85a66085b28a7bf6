use Rattle.std.proofs.Common.{IsTrue, ◌≤◌, ◌<◌, ◌-◌, ◌^◌, ◌≡◌, length}
use Rattle.folder_system.proofs.Copied.{Underway}
use Rattle.folder_system.proofs.opening.copy_bytes.Given as goal

abbrev pub invariant-copy : goal.invariant-copy
invariant-copy g l =
    Underway (IsTrue g.S.System.told) (g.S.System.inode l.from) (g.S.System.inode l.to) l.at (g.S.System.view l.fn.system) (g.S.System.view l.system)
    × (l.at < 2 ^ 63) × (length l.piece ≡ 65536) × (g.S.System.faults l.fn.system ≤ g.S.System.faults l.system)

abbrev pub decreases-copy : goal.decreases-copy
decreases-copy g l = 2 ^ 63 - l.at
