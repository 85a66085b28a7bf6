use Rattle.std.proofs.Common.{◌≡◌, ◌++◌, ℕ, List, sym, ◌∙◌, subst}
use Rattle.std.proofs.Math.Logic.{∥∥₁_map, ∥∥₁_map₂, ∥∥₁_elim}
use mathlib.Core.Logic.{∥∥₁_prop}
use Rattle.crossbeam_queue.specs.Passes.{view}
use Rattle.disk_images.specs.Crash.{Since}
use Rattle.disk_images.proofs.Moments.{since_weaker}
use Rattle.log_trucks.specs.Held.{Held}
use Rattle.log_ledger.specs.History.{History}
use Rattle.log_device.specs.Whole.{disk_of}
use Rattle.log_halves.specs.Chains.{all_trucks}
use Rattle.log_halves.specs.Halves.{Fell, RecoversHeld}
use Rattle.log_halves.proofs.Committed.{spelled_entries, recovers_more, fell_more}
use Rattle.log_halves.proofs.Popped.{popped_more}
use Rattle.log_halves.proofs.committer.DeviceHalf.drop_one.Goals as goal

pub invariant_of-self : goal.invariant_of-self
invariant_of-self g c =
    let s = c.args.self.now in
    let v = g.D.Disk.view (disk_of s.device) in
    let lasts : List ℕ = g.N.ServiceNaming.lasts in
    let base = g.N.ServiceNaming.begun in
    let start = g.N.ServiceNaming.start in
    let p = popped_more _ (view s.consumer.pass) (view c.pop.new.pass.pass) c.pop.result c.pop.ensures.popped in
    let ts : List Held = all_trucks (view s.consumer.pass).popped in
    let now : ts ++ p.more ≡ all_trucks (view c.pop.new.pass.pass).popped = sym p.all in
    record {
      from = (c.pop.ensures.same ∙ s.from.0, p.lasts ∙ s.from.1);
      all = s.all;
      served = s.served;
      idle = s.idle;
      drawn = λ whole. absurd (whole c.requires.broken);
      synced = s.synced;
      stored = s.stored;
      stands = λ told whole. absurd (whole c.requires.broken);
      fell = λ told broken.
          subst (λ (l : List Held). ∥ ((h : History) × Fell base lasts s.device v l h) ∥₁) now
          (∥∥₁_map (s.fell told broken) (λ x. (x.0, fell_more base lasts s.device v ts p.more x.0 x.1)));
      since = λ told.
          subst (λ (l : List Held). ∥ Since start (RecoversHeld base l) v ∥₁) now
          (∥∥₁_elim (spelled_entries p.more p.spelled) ∥∥₁_prop (λ e.
          ∥∥₁_map₂ (s.fell told c.requires.broken) (s.since told) (λ x past.
          since_weaker start (RecoversHeld base ts) (RecoversHeld base (ts ++ p.more)) v (recovers_more base lasts ts p.more x.0 e.0 e.1) past)));
      goes_on = s.goes_on;
      cause = s.cause;
    }
