use Rattle.std.proofs.Common.{◌≡◌, IsErr, IsTrue, sym, subst}
use Rattle.std.proofs.Math.Logic.{∥∥₁_map, ∥∥₁_map₂}
use Rattle.log_ledger.specs.History.{History, committed_in, staged_in}
use Rattle.log_device.specs.declared.device.Device.{Device}
use Rattle.log_device.specs.Whole.{IsWhole, IsBroken, disk_of}
use Rattle.device_trials.proofs.Held.{on_ok, on_err, by_answer, roll_keeps, flush_keeps, archive_keeps}
use Rattle.device_trials.proofs.bench.Bench.stage.Goals as goal

pub invariant_of-self : goal.invariant_of-self
invariant_of-self g c = record {
  kept = λ told.
      by_answer c.stage.result
      (λ err. subst (λ (d : Device g.row.D.Denot). (IsBroken d → ⊥) → ∥ ((h : History) × IsWhole d (g.D.Disk.view (disk_of d)) h) ∥₁) (sym (on_err c.stage.result c.stage.ensures.same err)) (c.args.self.now.kept told))
      (λ ok whole. ∥∥₁_map₂ (c.args.self.now.kept told (λ broken. ok (c.stage.ensures.broken broken))) c.requires.entry
      (λ r e. (staged_in r.0 e.0, on_ok c.stage.result ((c.stage.ensures.stages told r.0 r.1).staged e.0 e.1.entry e.1.bytes e.1.region e.1.number) ok)));
}
