use Rattle.std.proofs.Common.{◌≡◌, ◌≢◌, ◌⊎◌, inl, inr, ℕ, refl}
use Rattle.log_model.specs.LogText.{in_version}
use Rattle.entry_frame.specs.Feed.{key_of}
use Rattle.entry_frame.proofs.StepLaws.{entry_gate, form_gate, entry_step, end_step, fault_gate}
use Rattle.entry_frame.proofs.step.step_at_frame.Goals as goal

allowed : {a b : ℕ} → ((a ≡ 0 → ⊥) × (b ≡ a)) ⊎ (a ≡ 0) → a ≢ 0 → b ≡ a
allowed (inl h) some = h.1
allowed (inr zero) some = absurd (some zero)

plain : {v k : ℕ} → ((v ≡ 1) × (k ≡ 1)) ⊎ (v ≢ 1) → v ≡ 1 → k ≡ 1
plain (inl h) first = h.1
plain (inr other) first = absurd (other first)

pub returns-then-entry-file : goal.returns-then-entry-file
returns-then-entry-file c =
    let h = rw c.in-Ok-Entry.field-0-is at c.in-Ok-Entry.ensures.exact in
    (refl, entry_gate (in_version c.args.version (key_of c.args.file)) c.args.count c.args.bytes.now c.in-Ok-Entry.entry c.in-Ok-Entry.next c.ranges.count.fits c.requires.gate c.requires.whole h c.if-file-ne0.true c.if-entry-file.true)

pub returns-else-told-count : goal.returns-else-told-count
returns-else-told-count c =
    let h = rw c.in-Ok-End.field-0-is at c.in-Ok-End.ensures.exact in
    end_step c.args.count c.args.bytes.now c.in-Ok-End.told c.in-Ok-End.field-0-1 h c.if-told-count.false

pub returns-in-Err : goal.returns-in-Err
returns-in-Err c = (refl, fault_gate (in_version c.args.version (key_of c.args.file)) c.args.count c.args.bytes.now c.ranges.count.fits c.requires.gate c.requires.whole c.in-Err.ensures.exact.1)

pub returns-then-entry-ne1 : goal.returns-then-entry-ne1
returns-then-entry-ne1 c =
    let h = rw c.in-Ok-Entry.field-0-is at c.in-Ok-Entry.ensures.exact in
    (refl, form_gate (in_version c.args.version (key_of c.args.file)) c.args.count c.args.bytes.now c.in-Ok-Entry.entry c.in-Ok-Entry.next c.ranges.count.fits c.requires.gate c.requires.whole h c.if-version-eq1.true c.if-entry-ne1.true)

pub returns-else-version-eq1 : goal.returns-else-version-eq1
returns-else-version-eq1 c =
    let h = rw c.in-Ok-Entry.field-0-is at c.in-Ok-Entry.ensures.exact in
    entry_step (in_version c.args.version (key_of c.args.file)) c.args.count c.args.at c.args.bytes.now c.in-Ok-Entry.entry c.in-Ok-Entry.next h (allowed c.else-file-ne0.either) (plain c.else-version-eq1.either)
