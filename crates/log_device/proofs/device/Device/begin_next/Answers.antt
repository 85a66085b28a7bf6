use Rattle.std.proofs.Common.{◌≡◌, ◌+◌, ◌≤◌, ℕ, List, refl, sym, ap, ◌∙◌, subst, arith}
use Rattle.std.specs.Prelude.{sum}
use Rattle.std.proofs.Math.Logic.{∥∥₁_map}
use Rattle.log_model.specs.declared.name.Name.{Name}
use Rattle.log_file.specs.Open.{OpenLog}
use Rattle.log_ledger.specs.Counted.{IsCounted}
use Rattle.log_ledger.specs.History.{closed_in}
use Rattle.log_ledger.specs.Numbers.{Numbers}
use Rattle.log_device.specs.Keeps.{Keeps, log_name}
use Rattle.log_device.specs.Numbered.{IsNumbered}
use Rattle.log_device.proofs.Numbering.{same_file, numbered_next}
use Rattle.log_device.proofs.Breaking.{unharmed, fault_breaks}
use Rattle.log_device.proofs.Results.{some_apart, not_true}
use Rattle.log_device.proofs.RollSteps.{begins_next}
use Rattle.log_device.proofs.Whole.{kept_file}
use Rattle.log_device.proofs.Syncing.{same_told}
use Rattle.log_device.proofs.device.Device.begin_next.Goals as goal

pub overflow_add-next : goal.overflow_add-next
overflow_add-next g c =
    let numbered = c.args.self.now.numbered c.in-Some.log (sym c.take.ensures.value ∙ c.in-Some.is) in
    let number : c.name-number.result.number ≡ c.in-Some.log.name.number = ap (λ (n : Name). n.number) c.name-number.ensures in
    omega (arith, numbered.bound, c.requires.small, number)

pub next_log-requires-clause-kept : goal.next_log-requires-clause-kept
next_log-requires-clause-kept g c told =
    ∥∥₁_map (c.requires.rest.whole told) (λ r. (r.0, c.args.self.now.ledger.value.next_store, kept_file c.args.self.now (g.D.Disk.view c.args.self.now.disk) r.0 c.in-Some.log (sym c.take.ensures.value ∙ c.in-Some.is) r.1))

pub close-requires-clause-given : goal.close-requires-clause-given
close-requires-clause-given g c =
    let numbered = c.args.self.now.numbered c.in-Some.log (sym c.take.ensures.value ∙ c.in-Some.is) in
    let number : c.name-number.result.number ≡ c.in-Some.log.name.number = ap (λ (n : Name). n.number) c.name-number.ensures in
    omega (arith, numbered.later, number)

pub close-requires-clause-above : goal.close-requires-clause-above
close-requires-clause-above g c =
    let numbered = c.args.self.now.numbered c.in-Some.log (sym c.take.ensures.value ∙ c.in-Some.is) in
    let number : c.name-number.result.number ≡ c.in-Some.log.name.number = ap (λ (n : Name). n.number) c.name-number.ensures in
    omega (arith, numbered.later, number, ap (λ (b : Numbers). b.accounts.last) c.deref_mut.ensures.value)

pub invariant_of-self-in-Ok : goal.invariant_of-self-in-Ok
invariant_of-self-in-Ok g c = record {
  numbered = λ file is.
      let its = sym c.take.ensures.value ∙ c.in-Some.is in
      let number : c.name-number.result.number ≡ c.in-Some.log.name.number = ap (λ (n : Name). n.number) c.name-number.ensures in
      subst (λ (f : OpenLog). IsNumbered f c.close.new.self) (same_file c.in-Ok.log file is)
      (numbered_next c.in-Some.log c.in-Ok.log c.args.self.now.ledger.value c.close.new.self (c.args.self.now.numbered c.in-Some.log its) (c.requires.some c.in-Some.log its)
      c.in-Ok.ensures.begun.0 c.in-Ok.ensures.begun.1 c.in-Ok.ensures.begun.2 (ap sum (rw c.deref_mut.ensures.value at c.close.ensures.same.drawn)) (c.close.ensures.last ∙ number));
}

pub returns-in-Ok-clause-begins : goal.returns-in-Ok-clause-begins
returns-in-Ok-clause-begins g c told h file whole is none =
    let ns = c.args.self.now.ledger.value.next_store in
    let its = sym c.take.ensures.value ∙ c.in-Some.is in
    let keeps = kept_file c.args.self.now (g.D.Disk.view c.args.self.now.disk) h c.in-Some.log its whole in
    let number : c.name-number.result.number ≡ c.in-Some.log.name.number = ap (λ (n : Name). n.number) c.name-number.ensures in
    begins_next g.D.Disk h _ c.args.self.now _ c.in-Some.log file (g.met.D.Disk.is_true c.args.self.now.disk told) whole its is
    (c.next_log.ensures.any_moment told h ns keeps) (c.next_log.ensures.names told h ns keeps) (c.next_log.ensures.in_order told h ns keeps) (c.next_log.ensures.appends told h ns keeps)
    (record {
      file = c.in-Ok.log;
      is = refl;
      keeps = subst (λ (l : List ℕ). Keeps c.in-Ok.log (g.D.Disk.view c.next_log.new.disk) (closed_in h c.in-Some.log.name.number) l) (sym (rw c.deref_mut.ensures.value at c.close.ensures.same.next_store)) (c.in-Ok.ensures.kept told h ns keeps none);
      counted = subst (λ (n : ℕ). IsCounted c.close.new.self (closed_in h n)) number ((rw c.deref_mut.ensures.value at c.close.ensures.counted) h whole.counted none);
      told = same_told g.D.Disk h c.args.self.now _ (rw c.deref_mut.ensures.value at c.close.ensures.same.stored) whole;
    })

pub returns-in-Err-clause-begins : goal.returns-in-Err-clause-begins
returns-in-Err-clause-begins g c told h file whole is none =
    let ns = c.args.self.now.ledger.value.next_store in
    let its = sym c.take.ensures.value ∙ c.in-Some.is in
    let keeps = kept_file c.args.self.now (g.D.Disk.view c.args.self.now.disk) h c.in-Some.log its whole in
    begins_next g.D.Disk h _ c.args.self.now _ c.in-Some.log file (g.met.D.Disk.is_true c.args.self.now.disk told) whole its is
    (c.next_log.ensures.any_moment told h ns keeps) (c.next_log.ensures.names told h ns keeps) (c.next_log.ensures.in_order told h ns keeps) (c.next_log.ensures.appends told h ns keeps)
    tt

pub returns-in_default-clause-begins : goal.returns-in_default-clause-begins
returns-in_default-clause-begins g c told h file whole is none = absurd (c.requires.rest.unbroken (sym c.take.ensures.value ∙ c.in_default.is))

pub returns-in_default-clause-numbers : goal.returns-in_default-clause-numbers
returns-in_default-clause-numbers g c = absurd (c.requires.rest.unbroken (sym c.take.ensures.value ∙ c.in_default.is))

pub returns-in_default-clause-breaks : goal.returns-in_default-clause-breaks
returns-in_default-clause-breaks g c = absurd (c.requires.rest.unbroken (sym c.take.ensures.value ∙ c.in_default.is))

pub next_log-requires-clause-idle : goal.next_log-requires-clause-idle
next_log-requires-clause-idle g c = (c.requires.rest.idle c.in-Some.log (sym c.take.ensures.value ∙ c.in-Some.is)).0

pub next_log-requires-clause-some : goal.next_log-requires-clause-some
next_log-requires-clause-some g c = c.requires.some c.in-Some.log (sym c.take.ensures.value ∙ c.in-Some.is)

pub next_log-requires-clause-next : goal.next_log-requires-clause-next
next_log-requires-clause-next g c = ap (λ (n : Name). log_name (n.number + 1)) c.name-number.ensures

pub close-requires-clause-room : goal.close-requires-clause-room
close-requires-clause-room g c = subst (λ (b : Numbers). 1 ≤ b.accounts.room) (sym c.deref_mut.ensures.value) c.requires.room

pub invariant_of-self-in-Err : goal.invariant_of-self-in-Err
invariant_of-self-in-Err g c = record { numbered = λ file is. absurd (some_apart (sym c.take.ensures.after ∙ is)) }

pub returns-in-Ok-clause-breaks : goal.returns-in-Ok-clause-breaks
returns-in-Ok-clause-breaks g c = unharmed g.D.Disk c.args.self.now _ c.requires.rest.unbroken (λ broken. some_apart (sym broken)) c.next_log.ensures.cause not_true

pub returns-in-Err-clause-breaks : goal.returns-in-Err-clause-breaks
returns-in-Err-clause-breaks g c = fault_breaks g.D.Disk c.args.self.now _ c.requires.rest.unbroken c.take.ensures.after c.in-Err.ensures.cause refl refl

pub returns-in-Err-clause-numbers : goal.returns-in-Err-clause-numbers
returns-in-Err-clause-numbers g c = record {
  next = λ file is. tt;
  emptied = λ file is. absurd (some_apart (sym c.take.ensures.after ∙ is));
  closed = tt;
  closed_faulty = refl;
  same = record { drawn = refl; synced = refl; stored = refl; closed = refl; next_store = refl; flushed = λ r f. refl };
  few = λ limit was. was;
}
