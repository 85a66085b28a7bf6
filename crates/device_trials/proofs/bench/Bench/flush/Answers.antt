use Rattle.std.proofs.Common.{◌≡◌, IsErr, IsTrue, option_copied, sym, subst}
use Rattle.std.proofs.Math.Logic.{∥∥₁_map, ∥∥₁_map₂}
use Rattle.log_ledger.specs.History.{History, committed_in, staged_in, family_in}
use Rattle.log_device.specs.declared.device.Device.{Device}
use Rattle.log_device.specs.Whole.{IsWhole, IsBroken, disk_of}
use Rattle.device_trials.proofs.Held.{on_ok, on_err, by_answer, roll_keeps, flush_keeps, archive_keeps}
use Rattle.device_trials.proofs.bench.Bench.flush.Goals as goal

pub invariant_of-self : goal.invariant_of-self
invariant_of-self g c = record {
  kept = λ told whole.
      ∥∥₁_map (c.args.self.now.kept told (λ broken. whole (subst (λ (d : Device g.row.D.Denot). IsBroken d) (sym (c.flush.ensures.stays broken)) broken)))
      (λ r. flush_keeps c.flush.new.self (g.D.Disk.view (disk_of c.flush.new.self)) r.0 _ _ c.args.region (family_in (option_copied c.args.family)) c.flush.result (c.flush.ensures.flushes told r.0 r.1).flushed (c.flush.ensures.flushes told r.0 r.1).refused whole);
}
