use Rattle.std.proofs.Common.{◌≡◌, ℕ, List, [], get_or, sym, ap, ◌∙◌, subst, arith}
use Rattle.std.proofs.Math.Logic.{∥∥₁_map}
use Rattle.crossbeam_queue.specs.Passes.{view}
use Rattle.append_ring.specs.Rules.{base_of}
use Rattle.disk_images.specs.Crash.{Since}
use Rattle.log_trucks.specs.Held.{Held}
use Rattle.log_ledger.specs.History.{History}
use Rattle.log_device.specs.Whole.{disk_of}
use Rattle.log_halves.specs.Trucks.{come_to}
use Rattle.log_halves.specs.Chains.{all_trucks}
use Rattle.log_halves.specs.Halves.{Stands, RecoversHeld}
use Rattle.log_halves.proofs.Beginning.{stands_first, since_first}
use Rattle.log_halves.proofs.Elapsed.{goes_on_first}
use Rattle.log_halves.proofs.starting.second_half.Goals as goal

pub invariant_of-half : goal.invariant_of-half
invariant_of-half g c =
    let d = c.args.device in
    let v = g.D.Disk.view (disk_of d) in
    let lasts : List ℕ = g.N.ServiceNaming.lasts in
    let base = g.N.ServiceNaming.begun in
    let fresh = c.requires.device in
    let none : [] ≡ all_trucks (view c.args.consumer.pass).popped = sym (ap all_trucks c.requires.consumer.1) in
    record {
      from = (c.requires.chain_ring, c.requires.consumer.0);
      all = c.requires.regions;
      served = fresh.served;
      idle = fresh.idle;
      drawn = λ whole r low high. fresh.drawn r low high ∙ ap (λ (ts : List Held). come_to (base_of lasts) ts r) none;
      synced = λ whole. fresh.synced;
      stored = λ r. let a = ap (λ (l : List ℕ). get_or l r 0) fresh.synced in let b = ap (λ (l : List ℕ). get_or l r 0) fresh.stored in omega (arith, a, b);
      stands = λ told whole. subst (λ (ts : List Held). ∥ ((h : History) × Stands base lasts d v ts h) ∥₁) none (∥∥₁_map (c.requires.whole told) (λ b. (b.0, stands_first base lasts d v b.0 b.1)));
      fell = λ told broken. absurd (fresh.unbroken broken);
      since = λ told. subst (λ (ts : List Held). ∥ Since g.N.ServiceNaming.start (RecoversHeld base ts) v ∥₁) none
          (subst (λ (t : ℕ). ∥ Since t (RecoversHeld base []) v ∥₁) (sym (c.requires.start told)) (∥∥₁_map (c.requires.whole told) (λ b. since_first base lasts d v b.0 b.1)));
      goes_on = λ told. ∣ goes_on_first g.N.ServiceNaming.start g.N.ServiceNaming.past v (c.requires.start told) (c.requires.past told) ∣₁;
      cause = ∣ record { later = (let same = c.requires.faults in omega (arith, same)); risen = λ broken. absurd (fresh.unbroken broken) } ∣₁;
    }
