use Rattle.std.proofs.Common.{◌≡◌, ◌<◌, ◌≤◌, ℕ, List, [], ◌∷◌, ◌++◌, length, get_or, sym, ap, ◌∙◌, subst, arith}
use Rattle.std.proofs.Math.Logic.{∥∥₁_map, ∥∥₁_map₂, ∥∥₁_elim}
use mathlib.Core.Logic.{∥∥₁_prop}
use Rattle.std.specs.Coded.{le_prop}
use Rattle.crossbeam_queue.specs.Passes.{view}
use Rattle.append_ring.specs.Rules.{base_of, of}
use Rattle.disk_images.specs.Crash.{Since}
use Rattle.log_trucks.specs.Held.{Held}
use Rattle.log_ledger.specs.History.{History, committed_in}
use Rattle.log_device.specs.Whole.{IsBroken, disk_of, numbers_of}
use Rattle.log_halves.specs.Trucks.{come_to}
use Rattle.log_halves.specs.Chains.{all_trucks, AreInOrder}
use Rattle.log_halves.specs.Commits.{all_staged_in, drawn_in}
use Rattle.log_halves.specs.Halves.{Stands, Fell, RecoversHeld}
use Rattle.log_halves.proofs.Chains.{come_append}
use Rattle.log_halves.proofs.ItemLaws.{all_with}
use Rattle.log_halves.proofs.Committed.{spelled_entries, of_all, follow_within, follow_served, popped_follows, come_at, come_later, told_later, stands_more, falls, since_more, rose_before, on_ok, on_err}
use Rattle.log_halves.proofs.Stored.{stored_on}
use Rattle.log_halves.proofs.Elapsed.{goes_on_by}
use Rattle.log_halves.proofs.committer.DeviceHalf.commit_one.Goals as goal

-- nothing was popped
pub invariant_of-self : goal.invariant_of-self
invariant_of-self g c =
    let s = c.args.self.now in
    let v = g.D.Disk.view (disk_of s.device) in
    let lasts : List ℕ = g.N.ServiceNaming.lasts in
    let base = g.N.ServiceNaming.begun in
    let same = c.in_default.ensures.popped.0 in
    let still : all_trucks (view s.consumer.pass).popped ≡ all_trucks (view c.pop.new.pass.pass).popped = ap (λ k. all_trucks k.popped) (sym same) in
    record {
      from = (c.in_default.ensures.same ∙ s.from.0, ap (λ k. k.lasts) same ∙ s.from.1);
      all = s.all;
      served = s.served;
      idle = s.idle;
      drawn = subst (λ (ts : List Held). (IsBroken s.device → ⊥) → (r : ℕ) → 0 < r → r ≤ length lasts → get_or (numbers_of s.device).drawn r 0 ≡ come_to (base_of lasts) ts r) still s.drawn;
      synced = s.synced;
      stored = s.stored;
      stands = λ told whole. subst (λ (ts : List Held). ∥ ((h : History) × Stands base lasts s.device v ts h) ∥₁) still (s.stands told whole);
      fell = λ told broken. subst (λ (ts : List Held). ∥ ((h : History) × Fell base lasts s.device v ts h) ∥₁) still (s.fell told broken);
      since = λ told. subst (λ (ts : List Held). ∥ Since g.N.ServiceNaming.start (RecoversHeld base ts) v ∥₁) still (s.since told);
      goes_on = s.goes_on;
      cause = s.cause;
    }

pub commit_chain-requires-clause-served : goal.commit_chain-requires-clause-served
commit_chain-requires-clause-served g c =
    let s = c.args.self.now in
    let lasts : List ℕ = g.N.ServiceNaming.lasts in
    let popped = (view s.consumer.pass).popped in
    let order = subst (λ (l : List ℕ). AreInOrder l (of (λ (_ : List Held). 1) 1 (popped ++ c.in-Some.chain ∷ []))) s.from.1 c.in-Some.ensures.popped.ordered in
    follow_served (numbers_of s.device) (length lasts) (come_to (base_of lasts) (all_trucks popped)) c.in-Some.chain s.served (popped_follows lasts popped c.in-Some.chain order)

pub commit_chain-requires-clause-rising : goal.commit_chain-requires-clause-rising
commit_chain-requires-clause-rising g c =
    let s = c.args.self.now in
    let lasts : List ℕ = g.N.ServiceNaming.lasts in
    let popped = (view s.consumer.pass).popped in
    let order = subst (λ (l : List ℕ). AreInOrder l (of (λ (_ : List Held). 1) 1 (popped ++ c.in-Some.chain ∷ []))) s.from.1 c.in-Some.ensures.popped.ordered in
    (length lasts, follow_within (length lasts) (come_to (base_of lasts) (all_trucks popped)) (drawn_in (numbers_of s.device)) c.in-Some.chain (λ r low high. sym (s.drawn c.requires.unbroken r low high)) (popped_follows lasts popped c.in-Some.chain order))

pub commit_chain-requires-clause-whole : goal.commit_chain-requires-clause-whole
commit_chain-requires-clause-whole g c told = ∥∥₁_map (c.args.self.now.stands told c.requires.unbroken) (λ x. (x.0, x.1.whole, x.1.idle))

-- a chain was popped, and is committed or not
pub invariant_of-self-2 : goal.invariant_of-self-2
invariant_of-self-2 g c =
    let s = c.args.self.now in
    let d = c.commit_chain.new.device in
    let chain : List Held = c.in-Some.chain in
    let v = g.D.Disk.view (disk_of s.device) in
    let w = g.D.Disk.view (disk_of d) in
    let lasts : List ℕ = g.N.ServiceNaming.lasts in
    let base = g.N.ServiceNaming.begun in
    let start = g.N.ServiceNaming.start in
    let got = c.in-Some.ensures.popped in
    let said = c.commit_chain.ensures in
    let popped = (view s.consumer.pass).popped in
    let ts : List Held = all_trucks popped in
    let now : ts ++ chain ≡ all_trucks (view c.pop.new.pass.pass).popped = sym (ap (λ k. all_trucks k.popped) got.now ∙ all_with popped chain) in
    let entries = spelled_entries chain got.good.0.2 in
    record {
      from = (c.in-Some.ensures.same ∙ s.from.0, ap (λ k. k.lasts) got.now ∙ s.from.1);
      all = s.all;
      served = λ r low high. subst (λ (l : List ℕ). 0 < get_or l r 0) (sym said.told.2) (s.served r low high);
      idle = said.emptied;
      drawn = λ whole r low high.
          said.drawn r ∙ (come_at (drawn_in (numbers_of s.device)) (come_to (base_of lasts) ts) chain r (s.drawn c.requires.unbroken r low high)
          ∙ (ap (λ (f : ℕ → ℕ). f r) (sym (come_append (base_of lasts) ts chain)) ∙ ap (λ (l : List Held). come_to (base_of lasts) l r) now));
      synced = λ whole. on_ok c.commit_chain.result said.synced (λ err. whole (said.broken.0 err));
      stored = stored_on (numbers_of s.device) (numbers_of d) said.told.0 said.rises s.stored;
      stands = λ told whole.
          subst (λ (l : List Held). ∥ ((h : History) × Stands base lasts d w l h) ∥₁) now
          (∥∥₁_map₂ (s.stands told c.requires.unbroken) entries (λ x e.
          let committed = on_ok c.commit_chain.result (said.committed told x.0 e.0 x.1.whole x.1.idle e.1) (λ err. whole (said.broken.0 err)) in
          (committed_in (all_staged_in x.0 e.0), stands_more base lasts ts chain x.0 e.0 e.1 s.device d v w x.1 committed said.few)));
      fell = λ told broken.
          subst (λ (l : List Held). ∥ ((h : History) × Fell base lasts d w l h) ∥₁) now
          (∥∥₁_map₂ (s.stands told c.requires.unbroken) entries (λ x e. (
            all_staged_in x.0 e.0,
            falls base lasts ts chain x.0 e.0 e.1 s.device d v w (g.met.D.Disk.is_true (disk_of s.device) told) x.1 (said.orderly told x.0 e.0 x.1.whole e.1) s.served (on_err c.commit_chain.result said.faulty (said.broken.1 broken)) said.told.0 said.told.1
                (said.any_moment told x.0 e.0 x.1.whole x.1.idle e.1) (said.names told x.0 e.0 x.1.whole.file x.1.whole e.1 x.1.whole.is),
          )));
      since = λ told.
          subst (λ (l : List Held). ∥ Since start (RecoversHeld base l) w ∥₁) now
          (∥∥₁_elim entries ∥∥₁_prop (λ e.
          ∥∥₁_map₂ (s.stands told c.requires.unbroken) (s.since told) (λ x past.
          since_more base lasts ts chain x.0 e.0 e.1 s.device v w start (g.met.D.Disk.is_true (disk_of s.device) told) x.1 (said.any_moment told x.0 e.0 x.1.whole x.1.idle e.1) past)));
      goes_on = λ told.
          ∥∥₁_elim entries ∥∥₁_prop (λ e.
          ∥∥₁_map₂ (s.stands told c.requires.unbroken) (s.goes_on told) (λ x so_far. goes_on_by start g.N.ServiceNaming.past 4 v w (said.any_moment told x.0 e.0 x.1.whole x.1.idle e.1).time so_far));
      cause = ∥∥₁_map s.cause (λ k. record {
        later = (let l = k.later in let m = said.cause.later in omega (arith, l, m));
        risen = λ broken. rose_before g.N.ServiceNaming.faults (g.D.Disk.faults (disk_of s.device)) (g.D.Disk.faults (disk_of d)) k.later (said.cause.risen (said.broken.1 broken));
      });
    }

pub returns-in-Ok-clause-later : goal.returns-in-Ok-clause-later
returns-in-Ok-clause-later g c =
    let s = c.args.self.now in
    let said = c.commit_chain.ensures in
    let ok = c.in-Ok.ensures in
    let lasts : List ℕ = g.N.ServiceNaming.lasts in
    let popped = (view s.consumer.pass).popped in
    let order = subst (λ (l : List ℕ). AreInOrder l (of (λ (_ : List Held). 1) 1 (popped ++ c.in-Some.chain ∷ []))) s.from.1 c.in-Some.ensures.popped.ordered in
    let rising = follow_within (length lasts) (come_to (base_of lasts) (all_trucks popped)) (drawn_in (numbers_of s.device)) c.in-Some.chain (λ r low high. sym (s.drawn c.requires.unbroken r low high)) (popped_follows lasts popped c.in-Some.chain order) in
    told_later s.regions (numbers_of s.device) (numbers_of c.commit_chain.new.device)
    (λ r low high.
    let was = ap (λ (l : List ℕ). get_or l r 0) (s.synced c.requires.unbroken) in
    let is = ap (λ (l : List ℕ). get_or l r 0) ok.synced in
    let more = come_later (length lasts) (drawn_in (numbers_of s.device)) c.in-Some.chain r rising in
    omega (arith, was, is, more, said.drawn r))
    said.told.0 said.told.1

pub returns-in-Ok-clause-clock : goal.returns-in-Ok-clause-clock
returns-in-Ok-clause-clock g c told =
    let s = c.args.self.now in
    let said = c.commit_chain.ensures in
    ∥∥₁_elim (s.stands told c.requires.unbroken) le_prop (λ x.
    ∥∥₁_elim (spelled_entries c.in-Some.chain c.in-Some.ensures.popped.good.0.2) le_prop (λ e.
    (said.any_moment told x.0 e.0 x.1.whole x.1.idle e.1).time.by_most))

pub returns-in-Err-clause-clock : goal.returns-in-Err-clause-clock
returns-in-Err-clause-clock g c told =
    let s = c.args.self.now in
    let said = c.commit_chain.ensures in
    ∥∥₁_elim (s.stands told c.requires.unbroken) le_prop (λ x.
    ∥∥₁_elim (spelled_entries c.in-Some.chain c.in-Some.ensures.popped.good.0.2) le_prop (λ e.
    (said.any_moment told x.0 e.0 x.1.whole x.1.idle e.1).time.by_most))

pub returns-in-Ok-clause-ordered : goal.returns-in-Ok-clause-ordered
returns-in-Ok-clause-ordered g c n is =
    let s = c.args.self.now in
    let got = c.in-Some.ensures.popped in
    let popped = (view s.consumer.pass).popped in
    let order = subst (λ (l : List ℕ). AreInOrder l (of (λ (_ : List Held). 1) 1 (popped ++ c.in-Some.chain ∷ []))) s.from.1 got.ordered in
    subst (AreInOrder g.N.ServiceNaming.lasts) (of_all (popped ++ c.in-Some.chain ∷ []) ∙ sym (ap (λ k. k.popped) got.now)) order
