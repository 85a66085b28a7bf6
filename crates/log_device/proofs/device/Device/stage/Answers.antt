use Rattle.std.proofs.Common.{◌≡◌, ◌<◌, ℕ, List, get_or, Some, refl, sym, ap, ◌∙◌, subst, arith}
use Rattle.std.proofs.Math.Logic.{∥∥₁_map}
use Rattle.log_trucks.specs.Held.{Haul}
use Rattle.log_file.specs.Open.{OpenLog}
use Rattle.log_ledger.specs.History.{staged_in}
use Rattle.log_ledger.specs.Numbers.{Numbers, IsServed}
use Rattle.log_device.specs.Keeps.{Keeps}
use Rattle.log_device.specs.Numbered.{IsNumbered}
use Rattle.log_device.proofs.Numbering.{same_file, numbered_staged}
use Rattle.log_device.proofs.Results.{some_apart}
use Rattle.log_device.proofs.Staged.{staged_kept, of_log}
use Rattle.log_device.proofs.Syncing.{same_told}
use Rattle.log_device.proofs.device.Device.stage.Goals as goal

pub stage-requires : goal.stage-requires
stage-requires g c =
    let numbered = c.args.self.now.numbered c.in-Some.log c.in-Some.is in
    let bytes = ap (λ (t : Haul). t.bytes) (c.behind-truck.view_is ∙ c.deref.ensures) in
    ∥∥₁_map c.requires.entry (λ r. (r.0, bytes ∙ r.1.bytes, of_log c.in-Some.log r.0 numbered.region r.1.entry))

pub invariant_of-self-in-Ok : goal.invariant_of-self-in-Ok
invariant_of-self-in-Ok g c = record {
  numbered = λ file is.
      subst (λ (f : OpenLog). IsNumbered f c.stage-in-Ok.new.self) (same_file c.stage.new.self file is)
      (numbered_staged c.in-Some.log c.stage.new.self c.args.self.now.ledger.value c.stage-in-Ok.new.self (c.args.self.now.numbered c.in-Some.log c.in-Some.is)
      c.stage.ensures.same_file.name (rw c.deref_mut.ensures.value at c.stage-in-Ok.ensures.grows) (rw c.deref_mut.ensures.value at c.stage-in-Ok.ensures.files.last));
}

pub invariant_of-self-in-Err : goal.invariant_of-self-in-Err
invariant_of-self-in-Err g c = record {
  numbered = λ file is. c.args.self.now.numbered file (c.in-Some.is ∙ ap (λ (f : OpenLog). Some f) (sym c.in-Err.ensures.same) ∙ is);
}

pub returns-in-Ok-clause-stages : goal.returns-in-Ok-clause-stages
returns-in-Ok-clause-stages g c told h whole = record {
  staged = λ e entry bytes region number.
      let file : whole.file ≡ c.in-Some.log = same_file whole.file c.in-Some.log (sym whole.is ∙ c.in-Some.is) in
      let keeps = subst (λ (f : OpenLog). Keeps f (g.D.Disk.view c.args.self.now.disk) h c.args.self.now.ledger.value.next_store) file whole.keeps in
      let numbered = c.args.self.now.numbered c.in-Some.log c.in-Some.is in
      let its = ap (λ (t : Haul). t.bytes) (c.behind-truck.view_is ∙ c.deref.ensures) in
      record {
        file = c.stage.new.self;
        is = refl;
        keeps = subst (λ (ns : List ℕ). Keeps c.stage.new.self (g.D.Disk.view c.args.self.now.disk) (staged_in h e) ns) (sym (rw c.deref_mut.ensures.value at c.stage-in-Ok.ensures.next_store))
            (staged_kept c.in-Some.log c.stage.new.self (g.D.Disk.view c.args.self.now.disk) h c.args.self.now.ledger.value.next_store e keeps
            (let drawn = whole.counted.drawn e.region (subst (λ (r : ℕ). IsServed c.args.self.now.ledger.value r) (sym region) c.requires.served) in
            let at : get_or c.args.self.now.ledger.value.drawn e.region 0 ≡ get_or c.args.self.now.ledger.value.drawn c.args.truck.value.region 0 = ap (λ (r : ℕ). get_or c.args.self.now.ledger.value.drawn r 0) region in
            omega (arith, c.requires.above, drawn, number, at))
            c.stage.ensures.same_file (c.in-Ok.ensures.staged h.kept.staged e keeps.staged (its ∙ bytes) (of_log c.in-Some.log e numbered.region entry)));
        counted = (rw c.deref_mut.ensures.value at c.stage-in-Ok.ensures.counted) h e whole.counted entry bytes region number;
        told = same_told g.D.Disk h c.args.self.now _ (rw c.deref_mut.ensures.value at c.stage-in-Ok.ensures.stored) whole;
      };
}

pub invariant_of-self : goal.invariant_of-self
invariant_of-self g c = record { numbered = c.args.self.now.numbered }

pub returns-in_default-clause-stages : goal.returns-in_default-clause-stages
returns-in_default-clause-stages g c told h whole = record { staged = λ e entry bytes region number. tt }

pub returns-in_default-clause-numbers : goal.returns-in_default-clause-numbers
returns-in_default-clause-numbers g c = record {
  disk = refl;
  file = λ file is. tt;
  unbroken = tt;
  drawn = tt;
  drawn_at = λ r. tt;
  synced = refl;
  stored = refl;
  closed = refl;
  next_store = refl;
  few = λ limit was. was;
}

pub returns-in_default-clause-full : goal.returns-in_default-clause-full
returns-in_default-clause-full g c file is = absurd (some_apart (sym c.in_default.is ∙ is))

pub returns-in_default-clause-broken : goal.returns-in_default-clause-broken
returns-in_default-clause-broken g c broken = refl

pub returns-in-Err-clause-stages : goal.returns-in-Err-clause-stages
returns-in-Err-clause-stages g c told h whole = record { staged = λ e entry bytes region number. tt }

pub returns-in-Err-clause-numbers : goal.returns-in-Err-clause-numbers
returns-in-Err-clause-numbers g c = record {
  disk = refl;
  file = λ file is. tt;
  unbroken = tt;
  drawn = tt;
  drawn_at = λ r. tt;
  synced = refl;
  stored = refl;
  closed = refl;
  next_store = refl;
  few = λ limit was. was;
}

pub returns-in-Ok-clause-broken : goal.returns-in-Ok-clause-broken
returns-in-Ok-clause-broken g c broken = absurd (some_apart (sym broken ∙ c.in-Some.is))

pub returns-in-Err-clause-broken : goal.returns-in-Err-clause-broken
returns-in-Err-clause-broken g c broken = refl

pub stage-requires-in-Ok-clause-served : goal.stage-requires-in-Ok-clause-served
stage-requires-in-Ok-clause-served g c = subst (λ (b : Numbers). IsServed b c.args.truck.value.region) (sym c.deref_mut.ensures.value) c.requires.served

pub stage-requires-in-Ok-clause-alone : goal.stage-requires-in-Ok-clause-alone
stage-requires-in-Ok-clause-alone g c = c.requires.alone

pub stage-requires-in-Ok-clause-entry : goal.stage-requires-in-Ok-clause-entry
stage-requires-in-Ok-clause-entry g c = c.requires.entry

pub stage-requires-in-Ok-clause-above : goal.stage-requires-in-Ok-clause-above
stage-requires-in-Ok-clause-above g c = subst (λ (b : Numbers). get_or b.drawn c.args.truck.value.region 0 < c.args.truck.value.number) (sym c.deref_mut.ensures.value) c.requires.above
