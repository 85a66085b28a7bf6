use Rattle.std.proofs.Common.{ℕ, List, get_or, sym, ap, ◌∙◌, arith}
use Rattle.std.proofs.Math.Logic.{∥∥₁_map, ∥∥₁_map₂}
use Rattle.crossbeam_queue.specs.Passes.{view}
use Rattle.log_trucks.specs.Held.{Held}
use Rattle.log_device.specs.Whole.{disk_of, numbers_of}
use Rattle.log_halves.specs.Chains.{all_trucks}
use Rattle.log_halves.proofs.Committed.{rose_before, told_none_fell}
use Rattle.log_halves.proofs.Elapsed.{goes_on_by}
use Rattle.log_halves.proofs.committer.DeviceHalf.roll.Goals as goal

pub roll_archived-requires-clause-whole : goal.roll_archived-requires-clause-whole
roll_archived-requires-clause-whole g c told = ∥∥₁_map (c.args.self.now.stands told c.requires.unbroken) (λ x. (x.0, x.1.whole))

pub invariant_of-self : goal.invariant_of-self
invariant_of-self g c =
    let s = c.args.self.now in
    let d = c.roll_archived.new.device in
    let said = c.roll_archived.ensures in
    let numbers = said.numbers in
    let lasts : List ℕ = g.N.ServiceNaming.lasts in
    let base = g.N.ServiceNaming.begun in
    let ts : List Held = all_trucks (view s.consumer.pass).popped in
    record {
      from = s.from;
      all = s.all;
      served = λ r low high. numbers.served r (s.served r low high);
      idle = numbers.idle;
      drawn = λ whole r low high. ap (λ (l : List ℕ). get_or l r 0) numbers.drawn ∙ s.drawn c.requires.unbroken r low high;
      synced = λ whole. numbers.synced whole ∙ sym numbers.drawn;
      stored = numbers.stored s.stored;
      stands = λ told whole. ∥∥₁_map (s.stands told c.requires.unbroken) (λ x. (said.ties told).stands base lasts ts x.0 x.1 whole);
      fell = λ told broken. ∥∥₁_map (s.stands told c.requires.unbroken) (λ x. (said.ties told).fell base lasts ts x.0 x.1 s.served broken);
      since = λ told. ∥∥₁_map₂ (s.stands told c.requires.unbroken) (s.since told) (λ x past. (said.ties told).since base lasts ts x.0 g.N.ServiceNaming.start x.1 past);
      goes_on = λ told.
          ∥∥₁_map₂ (s.stands told c.requires.unbroken) (s.goes_on told) (λ x so_far.
          let time = (said.ties told).time base lasts ts x.0 x.1 in
          goes_on_by g.N.ServiceNaming.start g.N.ServiceNaming.past time.0 (g.D.Disk.view (disk_of s.device)) (g.D.Disk.view (disk_of d)) time.1 so_far);
      cause = ∥∥₁_map s.cause (λ k. record {
        later = (let l = k.later in let m = said.cause.later in omega (arith, l, m));
        risen = λ broken. rose_before g.N.ServiceNaming.faults (g.D.Disk.faults (disk_of s.device)) (g.D.Disk.faults (disk_of d)) k.later (said.cause.risen (said.broken.1 broken));
      });
    }

pub returns-clause-later : goal.returns-clause-later
returns-clause-later g c =
    let s = c.args.self.now in
    told_none_fell s.regions (numbers_of s.device) (numbers_of c.roll_archived.new.device) c.roll_archived.ensures.numbers.later
