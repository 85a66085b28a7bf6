use Rattle.std.proofs.Common.{ℕ, List, length, refl, sym, ap, ◌∙◌, subst}
use Rattle.std.specs.Prelude.{sum}
use Rattle.std.specs.Option.{is_some}
use Rattle.std.proofs.Math.Logic.{∥∥₁_map}
use Rattle.log_ledger.specs.History.{with_logs}
use Rattle.log_ledger.specs.Numbers.{Numbers, AreStoresFew}
use Rattle.log_device.specs.Keeps.{Keeps}
use Rattle.chronicle_model.proofs.Grown.{prolonged}
use Rattle.log_device.proofs.Appends.{appends_where_logs_stay}
use Rattle.log_device.proofs.Calls.{archive_leaves}
use Rattle.log_device.proofs.Going.{keeps_those}
use Rattle.log_device.proofs.Breaking.{no_cause}
use Rattle.log_device.proofs.Results.{is_none_by, some_apart, not_true}
use Rattle.log_device.proofs.Numbering.{numbered_still}
use Rattle.log_device.proofs.Whole.{kept_file, whole_goes_on}
use Rattle.log_device.proofs.Syncing.{same_told}
use Rattle.log_device.proofs.device.Device.archive.Goals as goal

pub rename_flushed-requires : goal.rename_flushed-requires
rename_flushed-requires g c told =
    rw c.deref.ensures
    (∥∥₁_map (c.requires told (λ broken. not_true (sym (ap is_some broken) ∙ c.if-is_none.ensures))) (λ r. (r.1.file, r.0, r.1.keeps, r.1.counted)))

pub invariant_of-self-in-Ok : goal.invariant_of-self-in-Ok
invariant_of-self-in-Ok g c = record {
  numbered = λ file is.
      numbered_still file file c.args.self.now.ledger.value c.forget_flushed.new.self (c.args.self.now.numbered file is) refl refl (ap sum (rw c.deref_mut.ensures.value at c.forget_flushed.ensures.same.drawn)) (rw c.deref_mut.ensures.value at c.forget_flushed.ensures.last);
}

pub returns-in-Ok-clause-archives : goal.returns-in-Ok-clause-archives
returns-in-Ok-clause-archives g c told h whole = record {
  any_moment = archive_leaves whole.file (g.D.Disk.view c.args.self.now.disk) h c.args.self.now.ledger.value whole.keeps whole.counted (g.met.D.Disk.is_true c.args.self.now.disk told) (length h.logs)
      (g.D.Disk.view c.args.self.now.disk) (g.D.Disk.view c.rename_flushed.new.disk) ((rw c.deref.ensures at c.rename_flushed.ensures.renames) told whole.file h whole.keeps whole.counted).any_moment;
  names = λ file is. ((rw c.deref.ensures at c.rename_flushed.ensures.renames) told file h (kept_file c.args.self.now (g.D.Disk.view c.args.self.now.disk) h file is whole) whole.counted).names;
  archived =
      let w = g.D.Disk.view c.rename_flushed.new.disk in
      let kept = (rw c.deref.ensures at c.in-Ok.ensures.kept) told whole.file h whole.keeps whole.counted in
      let forgot = (rw c.deref_mut.ensures.value at c.forget_flushed.ensures.counted) h whole.counted in (
        forgot.0,
        forgot.1,
        forgot.2,
        record {
          file = whole.file;
          is = whole.is;
          keeps = subst (λ (ns : List ℕ). Keeps whole.file w (with_logs h forgot.0) ns) (sym (rw c.deref_mut.ensures.value at c.forget_flushed.ensures.same.next_store))
              (keeps_those whole.file w h c.args.self.now.ledger.value.next_store kept.0 forgot.0 kept.1 forgot.1 kept.2);
          counted = forgot.3;
          told = same_told g.D.Disk h c.args.self.now _ (rw c.deref_mut.ensures.value at c.forget_flushed.ensures.same.stored) whole;
        },
      );
  lower = λ file is k low. ((rw c.deref.ensures at c.rename_flushed.ensures.renames) told whole.file h whole.keeps whole.counted).logs k;
}

pub returns-in-Err-clause-archives : goal.returns-in-Err-clause-archives
returns-in-Err-clause-archives g c told h whole = record {
  any_moment = archive_leaves whole.file (g.D.Disk.view c.args.self.now.disk) h c.args.self.now.ledger.value whole.keeps whole.counted (g.met.D.Disk.is_true c.args.self.now.disk told) (length h.logs)
      (g.D.Disk.view c.args.self.now.disk) (g.D.Disk.view c.rename_flushed.new.disk) ((rw c.deref.ensures at c.rename_flushed.ensures.renames) told whole.file h whole.keeps whole.counted).any_moment;
  names = λ file is. ((rw c.deref.ensures at c.rename_flushed.ensures.renames) told file h (kept_file c.args.self.now (g.D.Disk.view c.args.self.now.disk) h file is whole) whole.counted).names;
  archived = tt;
  lower = λ file is k low. ((rw c.deref.ensures at c.rename_flushed.ensures.renames) told whole.file h whole.keeps whole.counted).logs k;
}

pub returns-in-Ok-clause-chronicle : goal.returns-in-Ok-clause-chronicle
returns-in-Ok-clause-chronicle g c told h whole =
    let u = g.D.Disk.view c.args.self.now.disk in
    let w = g.D.Disk.view c.rename_flushed.new.disk in
    prolonged whole.file.name.number u.files w.files
    (appends_where_logs_stay whole.file u h c.args.self.now.ledger.value.next_store whole.keeps w.files ((rw c.deref.ensures at c.rename_flushed.ensures.renames) told whole.file h whole.keeps whole.counted).logs)

pub returns-in-Err-clause-chronicle : goal.returns-in-Err-clause-chronicle
returns-in-Err-clause-chronicle g c told h whole =
    let u = g.D.Disk.view c.args.self.now.disk in
    let w = g.D.Disk.view c.rename_flushed.new.disk in
    prolonged whole.file.name.number u.files w.files
    (appends_where_logs_stay whole.file u h c.args.self.now.ledger.value.next_store whole.keeps w.files ((rw c.deref.ensures at c.rename_flushed.ensures.renames) told whole.file h whole.keeps whole.counted).logs)

pub invariant_of-self : goal.invariant_of-self
invariant_of-self g c = record { numbered = c.args.self.now.numbered }

pub returns-then-is_none-clause-archives : goal.returns-then-is_none-clause-archives
returns-then-is_none-clause-archives g c told h whole = absurd (some_apart (sym (is_none_by c.args.self.now.log c.if-is_none.ensures) ∙ whole.is))

pub returns-then-is_none-clause-numbers : goal.returns-then-is_none-clause-numbers
returns-then-is_none-clause-numbers g c = record { file = tt; drawn = refl; synced = refl; stored = refl; closed = refl; next_store = refl; few = λ limit was. was }

pub returns-then-is_none-clause-chronicle : goal.returns-then-is_none-clause-chronicle
returns-then-is_none-clause-chronicle g c told h whole = absurd (some_apart (sym (is_none_by c.args.self.now.log c.if-is_none.ensures) ∙ whole.is))

pub returns-then-is_none-clause-broken : goal.returns-then-is_none-clause-broken
returns-then-is_none-clause-broken g c = (λ _. is_none_by c.args.self.now.log c.if-is_none.ensures, λ _. refl)

pub returns-then-is_none-clause-cause : goal.returns-then-is_none-clause-cause
returns-then-is_none-clause-cause g c = no_cause _ _ refl (λ failed. failed.0 (is_none_by c.args.self.now.log c.if-is_none.ensures))

pub invariant_of-self-in-Err : goal.invariant_of-self-in-Err
invariant_of-self-in-Err g c = record { numbered = λ file is. absurd (some_apart is) }

pub returns-in-Ok-clause-numbers : goal.returns-in-Ok-clause-numbers
returns-in-Ok-clause-numbers g c = record {
  file = refl;
  drawn = c.forget_flushed.ensures.same.drawn ∙ ap (λ (b : Numbers). b.drawn) c.deref_mut.ensures.value;
  synced = c.forget_flushed.ensures.same.synced ∙ ap (λ (b : Numbers). b.synced) c.deref_mut.ensures.value;
  stored = c.forget_flushed.ensures.same.stored ∙ ap (λ (b : Numbers). b.stored) c.deref_mut.ensures.value;
  closed = c.forget_flushed.ensures.same.closed ∙ ap (λ (b : Numbers). b.closed) c.deref_mut.ensures.value;
  next_store = c.forget_flushed.ensures.same.next_store ∙ ap (λ (b : Numbers). b.next_store) c.deref_mut.ensures.value;
  few = λ limit was. c.forget_flushed.ensures.few limit (subst (λ (b : Numbers). AreStoresFew limit b) (sym c.deref_mut.ensures.value) was);
}

pub returns-in-Ok-clause-stays : goal.returns-in-Ok-clause-stays
returns-in-Ok-clause-stays g c broken = absurd (not_true (sym (ap is_some broken) ∙ c.if-is_none.ensures))

pub returns-in-Ok-clause-broken : goal.returns-in-Ok-clause-broken
returns-in-Ok-clause-broken g c = (λ failed. absurd (not_true failed), λ broken. absurd (not_true (sym (ap is_some broken) ∙ c.if-is_none.ensures)))

pub returns-in-Ok-clause-cause : goal.returns-in-Ok-clause-cause
returns-in-Ok-clause-cause g c = record { later = c.rename_flushed.ensures.cause.later; risen = λ failed. absurd (not_true failed.1) }

pub returns-in-Err-clause-numbers : goal.returns-in-Err-clause-numbers
returns-in-Err-clause-numbers g c = record { file = tt; drawn = refl; synced = refl; stored = refl; closed = refl; next_store = refl; few = λ limit was. was }

pub returns-in-Err-clause-stays : goal.returns-in-Err-clause-stays
returns-in-Err-clause-stays g c broken = absurd (not_true (sym (ap is_some broken) ∙ c.if-is_none.ensures))

pub returns-in-Err-clause-broken : goal.returns-in-Err-clause-broken
returns-in-Err-clause-broken g c = (λ _. refl, λ _. refl)

pub returns-in-Err-clause-cause : goal.returns-in-Err-clause-cause
returns-in-Err-clause-cause g c = record { later = c.rename_flushed.ensures.cause.later; risen = λ failed. c.in-Err.ensures.cause.risen refl }

pub returns-in-Ok-clause-goes_on : goal.returns-in-Ok-clause-goes_on
returns-in-Ok-clause-goes_on g c told h whole unbroken =
    let archived = (returns-in-Ok-clause-archives g c told h whole).archived in
    whole_goes_on _ (g.D.Disk.view c.rename_flushed.new.disk) (with_logs h archived.0) archived.3

pub returns-in-Err-clause-goes_on : goal.returns-in-Err-clause-goes_on
returns-in-Err-clause-goes_on g c told h whole unbroken = absurd (unbroken refl)

pub returns-then-is_none-clause-goes_on : goal.returns-then-is_none-clause-goes_on
returns-then-is_none-clause-goes_on g c told h whole unbroken = absurd (unbroken (is_none_by c.args.self.now.log c.if-is_none.ensures))
