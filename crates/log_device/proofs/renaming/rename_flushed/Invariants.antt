use Rattle.std.proofs.Common.{◌≤◌, ◌-◌, ◌^◌, IsTrue}
use Rattle.log_file.specs.Open.{OpenLog}
use Rattle.log_ledger.specs.History.{History}
use Rattle.log_ledger.specs.Counted.{IsCounted}
use Rattle.log_device.specs.Keeps.{Keeps}
use Rattle.log_device.proofs.Going.{SoFar}
use Rattle.log_device.proofs.renaming.rename_flushed.Given as goal

abbrev pub invariant-loop-file : goal.invariant-loop-file
invariant-loop-file g l =
    (IsTrue g.D.Disk.told → (log : OpenLog) (h : History) → Keeps log (g.D.Disk.view l.fn.disk) h l.ledger.next_store → IsCounted l.ledger h → SoFar log (g.D.Disk.view l.fn.disk) (g.D.Disk.view l.disk) h l.ledger.next_store l.above)
    × (g.D.Disk.faults l.fn.disk ≤ g.D.Disk.faults l.disk)

abbrev pub decreases-loop-file : goal.decreases-loop-file
decreases-loop-file g l = 2 ^ 64 - l.above
