use Rattle.std.proofs.Common.{◌≡◌, IsErr, IsTrue, sym, subst}
use Rattle.std.proofs.Math.Logic.{∥∥₁_map, ∥∥₁_map₂}
use Rattle.log_ledger.specs.History.{History, committed_in, staged_in}
use Rattle.log_device.specs.declared.device.Device.{Device}
use Rattle.log_device.specs.Whole.{IsWhole, IsBroken, disk_of}
use Rattle.device_trials.proofs.Held.{on_ok, on_err, by_answer, roll_keeps, flush_keeps, archive_keeps}
use Rattle.log_ledger.specs.History.{started_in}
use Rattle.device_trials.proofs.bench.Bench.start.Goals as goal

pub invariant_of-result : goal.invariant_of-result
invariant_of-result g c = record {
  kept = λ told whole. ∥∥₁_map (c.requires.opened told) (λ r. (started_in (g.D.Disk.view c.args.disk).files r.0, c.in-Ok.ensures.started told r.0 r.1));
}
