use Rattle.std.proofs.Common.{◌≡◌, ◌<◌, ◌^◌, inl, ℕ, List, Err, length, get_or, refl, sym, ap, ◌∙◌, subst, arith}
use Rattle.std.specs.Prelude.{sum}
use Rattle.std.proofs.Math.Logic.{∥∥₁_map}
use Rattle.std.proofs.lemmas.List.{nil_from_length}
use Rattle.log_ledger.specs.Numbers.{Numbers, AreStoresFew}
use Rattle.log_ledger.specs.Counted.{IsCounted}
use Rattle.log_ledger.specs.History.{closed_in}
use Rattle.log_device.specs.Whole.{IsBroken, HasHistory}
use Rattle.log_device.specs.declared.error.RollRefusal.TheVariants as refusals
use Rattle.log_device.proofs.Appends.{appends_nothing}
use Rattle.log_device.proofs.Numbering.{numbered_still}
use Rattle.log_device.proofs.Results.{none_of, on_any, ok_apart, err_same, not_true, not_other, is_err_of}
use Rattle.log_device.proofs.Breaking.{unharmed, still_breaks, fault_breaks}
use Rattle.log_device.proofs.RollSteps.{nothing_same, memory_apart, fault_apart, fault_not_memory, some_entries, reserved_as, reserved, still_rolls, rolls_by}
use Rattle.log_device.proofs.RollNumbers.{refused_numbers, failed_numbers}
use Rattle.log_device.proofs.Syncing.{same_history, same_told, none_fell}
use Rattle.log_device.proofs.Whole.{kept_file}
use Rattle.log_device.proofs.device.Device.roll_committed.Goals as goal

pub invariant_of-self : goal.invariant_of-self
invariant_of-self g c =
    let same = c.close_empty.ensures.closed ∙ ap (λ (b : Numbers). record b { closed = b.synced }) c.deref_mut-ledger.ensures.value in record {
      numbered = λ file is. numbered_still file file c.args.self.now.ledger.value c.close_empty.new.self (c.args.self.now.numbered file is) refl refl (ap (λ (b : Numbers). sum b.drawn) same) (ap (λ (b : Numbers). b.accounts.last) same);
    }

pub returns-then-entries-eq0-clause-rolls : goal.returns-then-entries-eq0-clause-rolls
returns-then-entries-eq0-clause-rolls g c told h whole none =
    let closed = c.close_empty.ensures.closed ∙ ap (λ (b : Numbers). record b { closed = b.synced }) c.deref_mut-ledger.ensures.value in
    let count : c.current-file.result.1 ≡ whole.file.entries = ap (λ (p : ℕ × ℕ). p.1) (c.current-file.ensures whole.file whole.is) in
    still_rolls g.D.Disk h _ c.args.self.now _ (g.met.D.Disk.is_true c.args.self.now.disk told) whole refl refl
    (same_history g.D.Disk h c.args.self.now _ refl refl (ap (λ (b : Numbers). b.next_store) closed)
    (c.close_empty.ensures.counted h (subst (λ (b : Numbers). IsCounted b h) (sym c.deref_mut-ledger.ensures.value) whole.counted) none (nil_from_length h.current (omega (arith, count, c.if-entries-eq0.true, whole.keeps.open_log.count))))
    (same_told g.D.Disk h c.args.self.now _ (ap (λ (b : Numbers). b.stored) closed) whole) whole)

pub returns-then-entries-eq0-clause-numbers : goal.returns-then-entries-eq0-clause-numbers
returns-then-entries-eq0-clause-numbers g c =
    let same = c.close_empty.ensures.closed ∙ ap (λ (b : Numbers). record b { closed = b.synced }) c.deref_mut-ledger.ensures.value in record {
      file = λ file is. tt;
      next = λ file is. tt;
      nothing = λ file n is told.
          let now = c.current-file.ensures file is in
          let count : c.current-file.result.1 ≡ file.entries = ap (λ (p : ℕ × ℕ). p.1) now in
          (sym (nothing_same _ n told) ∙ ap (λ (p : ℕ × ℕ). p.0) now, omega (arith, count, c.if-entries-eq0.true, (c.requires.idle file is).0));
      empty = λ file is none unbroken. ap (λ (p : ℕ × ℕ). Err (refusals.NothingToRoll p.0)) (c.current-file.ensures file is);
      emptied = c.requires.idle;
      closed = tt;
      closed_empty = λ n is. ap (λ (b : Numbers). b.closed) same ∙ sym (ap (λ (b : Numbers). b.synced) same);
      closed_still = λ memory. absurd (memory_apart _ (sym (err_same memory)));
      closed_broken = λ broken. absurd (c.requires.unbroken broken);
      synced = λ unbroken. ap (λ (b : Numbers). b.synced) same ∙ c.requires.synced;
      synced_either = inl (ap (λ (b : Numbers). b.synced) same);
      later = none_fell c.args.self.now.ledger.value c.close_empty.new.self (ap (λ (b : Numbers). b.synced) same) (ap (λ (b : Numbers). b.stored) same) (λ r.
          let is = ap (λ (b : Numbers). get_or b.closed r 0) same in
          omega (arith, is, c.requires.closed r));
      stored = ap (λ (b : Numbers). b.stored) same;
      drawn = ap (λ (b : Numbers). b.drawn) same;
      next_store = ap (λ (b : Numbers). b.next_store) same;
      few = λ limit was. c.close_empty.ensures.few limit (subst (λ (b : Numbers). AreStoresFew limit b) (sym c.deref_mut-ledger.ensures.value) was);
    }

pub returns-in_err-stage-clause-rolls : goal.returns-in_err-stage-clause-rolls
returns-in_err-stage-clause-rolls g c told h whole none =
    still_rolls g.D.Disk h _ c.args.self.now _ (g.met.D.Disk.is_true c.args.self.now.disk told) whole refl c.from_residual.ensures.0 (same_history g.D.Disk h c.args.self.now _ refl refl
    (ap (λ (b : Numbers). b.next_store) c.deref_mut-ledger.ensures.value) (subst (λ (b : Numbers). IsCounted b h) (sym c.deref_mut-ledger.ensures.value) whole.counted)
    (same_told g.D.Disk h c.args.self.now _ (ap (λ (b : Numbers). b.stored) c.deref_mut-ledger.ensures.value) whole) whole)

pub returns-in_err-reserve_file-clause-rolls : goal.returns-in_err-reserve_file-clause-rolls
returns-in_err-reserve_file-clause-rolls g c told h whole none =
    let same = reserved_as c.args.self.now.ledger.value _ c.reserve_file.new.self c.deref_mut-ledger.ensures.value c.reserve_file.ensures.same in
    still_rolls g.D.Disk h _ c.args.self.now _ (g.met.D.Disk.is_true c.args.self.now.disk told) whole refl c.from_residual-in_err-reserve_file.ensures.0
    (reserved g.D.Disk h c.args.self.now _ c.deref_mut-ledger.result.now refl refl same c.deref_mut-ledger.ensures.value c.reserve_file.ensures.counted whole)

pub invariant_of-self-2 : goal.invariant_of-self-2
invariant_of-self-2 g c =
    let same = reserved_as c.args.self.now.ledger.value _ c.reserve_file.new.self c.deref_mut-ledger.ensures.value c.reserve_file.ensures.same in record {
      numbered = λ file is. numbered_still file file c.args.self.now.ledger.value c.reserve_file.new.self (c.args.self.now.numbered file is) refl refl (ap (λ (b : Numbers). sum b.drawn) same) (ap (λ (b : Numbers). b.accounts.last) same);
    }

pub begin_next-requires-clause-rest : goal.begin_next-requires-clause-rest
begin_next-requires-clause-rest g c =
    let same = reserved_as c.args.self.now.ledger.value _ c.reserve_file.new.self c.deref_mut-ledger.ensures.value c.reserve_file.ensures.same in
    record {
      whole = λ told. ∥∥₁_map (c.requires.whole told) (λ r. (
        r.0,
        reserved g.D.Disk r.0 c.args.self.now _ c.deref_mut-ledger.result.now refl refl same c.deref_mut-ledger.ensures.value c.reserve_file.ensures.counted r.1,
        r.2,
      ));
      unbroken = c.requires.unbroken;
      idle = c.requires.idle;
      synced = ap (λ (b : Numbers). b.synced) same ∙ c.requires.synced ∙ sym (ap (λ (b : Numbers). b.drawn) same);
      closed = λ r.
          let closed = ap (λ (b : Numbers). get_or b.closed r 0) same in
          let synced = ap (λ (b : Numbers). get_or b.synced r 0) same in
          omega (arith, closed, synced, c.requires.closed r);
    }

pub returns-in_err-begin_next-clause-rolls : goal.returns-in_err-begin_next-clause-rolls
returns-in_err-begin_next-clause-rolls g c told h whole none =
    let same = reserved_as c.args.self.now.ledger.value _ c.reserve_file.new.self c.deref_mut-ledger.ensures.value c.reserve_file.ensures.same in
    let result = c.from_residual-in_err-begin_next.result in
    let begins = c.begin_next.ensures.begins told h whole.file (reserved g.D.Disk h c.args.self.now _ c.deref_mut-ledger.result.now refl refl same c.deref_mut-ledger.ensures.value c.reserve_file.ensures.counted whole) whole.is none in
    rolls_by g.D.Disk h _ _ c.args.self.now _ c.begin_next.new.self whole refl (ap (λ (b : Numbers). b.stored) same) (ap (λ (b : Numbers). b.closed) same) (ap (λ (b : Numbers). b.next_store) same) begins
    (none_of result (λ rolled. HasHistory g.D.Disk c.begin_next.new.self (closed_in h rolled.closed) × (rolled.entries ≡ length h.current)) c.from_residual-in_err-begin_next.ensures.0)
    (on_any {P = (IsBroken c.begin_next.new.self → ⊥) → HasHistory g.D.Disk c.begin_next.new.self h} result (λ unbroken. absurd (unbroken (c.in_err-begin_next.ensures.breaks.broken.0 refl))))

pub returns-clause-rolls : goal.returns-clause-rolls
returns-clause-rolls g c told h whole none =
    let same = reserved_as c.args.self.now.ledger.value _ c.reserve_file.new.self c.deref_mut-ledger.ensures.value c.reserve_file.ensures.same in
    let now = c.current-file.ensures whole.file whole.is in
    let count : c.current-file.result.1 ≡ whole.file.entries = ap (λ (p : ℕ × ℕ). p.1) now in
    let begins = c.in_ok-begin_next.ensures.begins told h whole.file (reserved g.D.Disk h c.args.self.now _ c.deref_mut-ledger.result.now refl refl same c.deref_mut-ledger.ensures.value c.reserve_file.ensures.counted whole) whole.is none in
    rolls_by g.D.Disk h _ _ c.args.self.now _ c.begin_next.new.self whole refl (ap (λ (b : Numbers). b.stored) same) (ap (λ (b : Numbers). b.closed) same) (ap (λ (b : Numbers). b.next_store) same) begins
    (subst (λ (n : ℕ). HasHistory g.D.Disk c.begin_next.new.self (closed_in h n)) (sym (ap (λ (p : ℕ × ℕ). p.0) now)) begins.closed, omega (arith, count, whole.keeps.open_log.count)) tt

pub returns-clause-numbers : goal.returns-clause-numbers
returns-clause-numbers g c =
    let same = reserved_as c.args.self.now.ledger.value _ c.reserve_file.new.self c.deref_mut-ledger.ensures.value c.reserve_file.ensures.same in
    let begun = c.in_ok-begin_next.ensures.numbers in
    let synced = begun.same.synced ∙ ap (λ (b : Numbers). b.synced) same in
    let stored = begun.same.stored ∙ ap (λ (b : Numbers). b.stored) same in record {
      file = λ file is.
          let now = c.current-file.ensures file is in
          let count : c.current-file.result.1 ≡ file.entries = ap (λ (p : ℕ × ℕ). p.1) now in
          let some : 0 < c.current-file.result.1 = omega (arith, c.if-entries-eq0.false) in
          (ap (λ (p : ℕ × ℕ). p.0) now, omega (arith, count, (c.requires.idle file is).0), some);
      next = begun.next;
      nothing = λ file n is told. absurd (ok_apart told);
      empty = λ file is none unbroken.
          let count : c.current-file.result.1 ≡ file.entries = ap (λ (p : ℕ × ℕ). p.1) (c.current-file.ensures file is) in
          absurd (omega (arith, c.if-entries-eq0.false, count, none));
      emptied = begun.emptied;
      closed = begun.closed ∙ sym begun.same.synced;
      closed_empty = λ n is. absurd (ok_apart is);
      closed_still = λ memory. absurd (ok_apart memory);
      closed_broken = λ broken. absurd (not_true (c.in_ok-begin_next.ensures.breaks.broken.1 broken));
      synced = λ unbroken. synced ∙ c.requires.synced;
      synced_either = inl synced;
      later = none_fell c.args.self.now.ledger.value c.begin_next.new.self.ledger.value synced stored (λ r.
          let is = ap (λ (l : List ℕ). get_or l r 0) (begun.closed ∙ ap (λ (b : Numbers). b.synced) same) in
          omega (arith, is, c.requires.closed r));
      stored = stored;
      drawn = begun.same.drawn ∙ ap (λ (b : Numbers). b.drawn) same;
      next_store = begun.same.next_store ∙ ap (λ (b : Numbers). b.next_store) same;
      few = λ limit was. begun.few limit (c.reserve_file.ensures.few limit (subst (λ (b : Numbers). AreStoresFew limit b) (sym c.deref_mut-ledger.ensures.value) was));
    }

pub invariant_of-self-in-Break-1 : goal.invariant_of-self-in-Break-1
invariant_of-self-in-Break-1 g c = rw c.deref_mut-ledger.ensures.value (record { numbered = c.args.self.now.numbered })

pub returns-then-entries-eq0-clause-appends : goal.returns-then-entries-eq0-clause-appends
returns-then-entries-eq0-clause-appends g c told h file whole is none =
    appends_nothing file (g.D.Disk.view c.args.self.now.disk) h c.args.self.now.ledger.value.next_store (kept_file c.args.self.now (g.D.Disk.view c.args.self.now.disk) h file is whole)

pub returns-in_err-stage-clause-appends : goal.returns-in_err-stage-clause-appends
returns-in_err-stage-clause-appends g c told h file whole is none =
    appends_nothing file (g.D.Disk.view c.args.self.now.disk) h c.args.self.now.ledger.value.next_store (kept_file c.args.self.now (g.D.Disk.view c.args.self.now.disk) h file is whole)

pub returns-in_err-reserve_file-clause-appends : goal.returns-in_err-reserve_file-clause-appends
returns-in_err-reserve_file-clause-appends g c told h file whole is none =
    appends_nothing file (g.D.Disk.view c.args.self.now.disk) h c.args.self.now.ledger.value.next_store (kept_file c.args.self.now (g.D.Disk.view c.args.self.now.disk) h file is whole)

pub returns-in_err-begin_next-clause-appends : goal.returns-in_err-begin_next-clause-appends
returns-in_err-begin_next-clause-appends g c told h file whole is none =
    let same = reserved_as c.args.self.now.ledger.value _ c.reserve_file.new.self c.deref_mut-ledger.ensures.value c.reserve_file.ensures.same in
    (c.begin_next.ensures.begins told h file (reserved g.D.Disk h c.args.self.now _ c.deref_mut-ledger.result.now refl refl same c.deref_mut-ledger.ensures.value c.reserve_file.ensures.counted whole) is none).appends

pub returns-clause-appends : goal.returns-clause-appends
returns-clause-appends g c told h file whole is none =
    let same = reserved_as c.args.self.now.ledger.value _ c.reserve_file.new.self c.deref_mut-ledger.ensures.value c.reserve_file.ensures.same in
    (c.begin_next.ensures.begins told h file (reserved g.D.Disk h c.args.self.now _ c.deref_mut-ledger.result.now refl refl same c.deref_mut-ledger.ensures.value c.reserve_file.ensures.counted whole) is none).appends

pub returns-then-entries-eq0-clause-memory : goal.returns-then-entries-eq0-clause-memory
returns-then-entries-eq0-clause-memory g c memory = refl

pub returns-then-entries-eq0-clause-breaks : goal.returns-then-entries-eq0-clause-breaks
returns-then-entries-eq0-clause-breaks g c = still_breaks g.D.Disk c.args.self.now _ c.requires.unbroken c.requires.unbroken refl (λ is. fault_apart _ (sym (err_same is)))

pub returns-in_err-stage-clause-numbers : goal.returns-in_err-stage-clause-numbers
returns-in_err-stage-clause-numbers g c =
    refused_numbers g.D.Disk c.from_residual.result c.args.self.now _ c.requires refl c.deref_mut-ledger.ensures.value
    (λ limit was. subst (λ (b : Numbers). AreStoresFew limit b) (sym c.deref_mut-ledger.ensures.value) was) (λ file is. some_entries c.current-file.result.1 file.entries (ap (λ (p : ℕ × ℕ). p.1) (c.current-file.ensures file is)) c.if-entries-eq0.false) c.from_residual.ensures.1

pub returns-in_err-stage-clause-memory : goal.returns-in_err-stage-clause-memory
returns-in_err-stage-clause-memory g c memory = refl

pub returns-in_err-stage-clause-breaks : goal.returns-in_err-stage-clause-breaks
returns-in_err-stage-clause-breaks g c =
    still_breaks g.D.Disk c.args.self.now _ c.requires.unbroken c.requires.unbroken refl (not_other c.from_residual.result refusals.Memory refusals.WriteFault (λ is. fault_not_memory (sym is)) c.from_residual.ensures.1)

pub returns-in_err-reserve_file-clause-numbers : goal.returns-in_err-reserve_file-clause-numbers
returns-in_err-reserve_file-clause-numbers g c =
    refused_numbers g.D.Disk c.from_residual-in_err-reserve_file.result c.args.self.now _ c.requires refl (reserved_as c.args.self.now.ledger.value _ c.reserve_file.new.self c.deref_mut-ledger.ensures.value c.reserve_file.ensures.same)
    (λ limit was. c.reserve_file.ensures.few limit (subst (λ (b : Numbers). AreStoresFew limit b) (sym c.deref_mut-ledger.ensures.value) was)) (λ file is. some_entries c.current-file.result.1 file.entries (ap (λ (p : ℕ × ℕ). p.1) (c.current-file.ensures file is)) c.if-entries-eq0.false) c.from_residual-in_err-reserve_file.ensures.1

pub returns-in_err-reserve_file-clause-memory : goal.returns-in_err-reserve_file-clause-memory
returns-in_err-reserve_file-clause-memory g c memory = refl

pub returns-in_err-reserve_file-clause-breaks : goal.returns-in_err-reserve_file-clause-breaks
returns-in_err-reserve_file-clause-breaks g c =
    still_breaks g.D.Disk c.args.self.now _ c.requires.unbroken c.requires.unbroken refl (not_other c.from_residual-in_err-reserve_file.result refusals.Memory refusals.WriteFault (λ is. fault_not_memory (sym is)) c.from_residual-in_err-reserve_file.ensures.1)

pub begin_next-requires-clause-some : goal.begin_next-requires-clause-some
begin_next-requires-clause-some g c file is = some_entries c.current-file.result.1 file.entries (ap (λ (p : ℕ × ℕ). p.1) (c.current-file.ensures file is)) c.if-entries-eq0.false

pub begin_next-requires-clause-room : goal.begin_next-requires-clause-room
begin_next-requires-clause-room g c = c.in_ok-reserve_file.ensures.ok

pub begin_next-requires-clause-small : goal.begin_next-requires-clause-small
begin_next-requires-clause-small g c = subst (λ (n : ℕ). n < 2 ^ 55) (sym (ap (λ (b : Numbers). sum b.drawn) c.reserve_file.ensures.same)) c.reserve_file.ensures.small

pub returns-in_err-begin_next-clause-numbers : goal.returns-in_err-begin_next-clause-numbers
returns-in_err-begin_next-clause-numbers g c =
    failed_numbers g.D.Disk c.from_residual-in_err-begin_next.result c.args.self.now _ c.begin_next.new.self c.requires (reserved_as c.args.self.now.ledger.value _ c.reserve_file.new.self c.deref_mut-ledger.ensures.value c.reserve_file.ensures.same)
    (c.in_err-begin_next.ensures.breaks.broken.0 refl) c.in_err-begin_next.ensures.numbers (λ limit was. c.reserve_file.ensures.few limit (subst (λ (b : Numbers). AreStoresFew limit b) (sym c.deref_mut-ledger.ensures.value) was))
    c.from_residual-in_err-begin_next.ensures.1

pub returns-in_err-begin_next-clause-memory : goal.returns-in_err-begin_next-clause-memory
returns-in_err-begin_next-clause-memory g c memory =
    absurd (not_other c.from_residual-in_err-begin_next.result refusals.WriteFault refusals.Memory fault_not_memory c.from_residual-in_err-begin_next.ensures.1 memory)

pub returns-in_err-begin_next-clause-breaks : goal.returns-in_err-begin_next-clause-breaks
returns-in_err-begin_next-clause-breaks g c =
    fault_breaks g.D.Disk c.args.self.now c.begin_next.new.self c.requires.unbroken (c.in_err-begin_next.ensures.breaks.broken.0 refl) c.in_err-begin_next.ensures.breaks.cause (c.requires.unbroken, refl)
    (is_err_of c.from_residual-in_err-begin_next.result refusals.WriteFault c.from_residual-in_err-begin_next.ensures.1)

pub returns-clause-memory : goal.returns-clause-memory
returns-clause-memory g c memory = absurd (ok_apart memory)

pub returns-clause-breaks : goal.returns-clause-breaks
returns-clause-breaks g c =
    unharmed g.D.Disk c.args.self.now c.begin_next.new.self c.requires.unbroken (λ broken. not_true (c.in_ok-begin_next.ensures.breaks.broken.1 broken)) c.begin_next.ensures.breaks.cause ok_apart
