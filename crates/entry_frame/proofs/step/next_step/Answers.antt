use Rattle.std.proofs.Common.{◌≡◌, ◌+◌, ℕ, List, length, take, drop, arith, subst}
use Rattle.std.specs.List.{between}
use Rattle.std.proofs.lemmas.List.{length-drop}
use Rattle.std.proofs.lemmas.Slice.{between_to_end}
use Rattle.log_model.specs.LogText.{in_version, header}
use Rattle.entry_frame.specs.declared.step.Step.TheVariants as steps
use Rattle.entry_frame.specs.Feed.{key_of}
use Rattle.entry_frame.specs.Step.{IsAtGate}
use Rattle.entry_frame.proofs.StepLaws.{next_later, none_taken, wrong_header, whole_at_gate, from_nothing, first_entry, first_other}
use Rattle.entry_frame.proofs.step.next_step.Goals as goal

pub returns-then-count-gt0 : goal.returns-then-count-gt0
returns-then-count-gt0 c = record {
  whole = whole_at_gate (in_version c.args.version (key_of c.args.file)) c.args.count c.args.at c.args.bytes.now c.step_at_gate.result c.requires.known c.step_at_gate.ensures;
  next = λ given taken n each is place. next_later c.args.version (key_of c.args.file) c.args.count c.args.at c.args.bytes.now given taken c.step_at_gate.result c.requires.known c.if-count-gt0.true (c.requires.some c.if-count-gt0.true) c.step_at_gate.ensures n each is place;
}

pub returns-in_default : goal.returns-in_default
returns-in_default c =
    let found = wrong_header (key_of c.args.file) c.args.bytes.now (omega arith) c.in_default.ensures in
    record {
      whole = tt;
      next = λ given taken n each is place. from_nothing (key_of c.args.file) c.args.bytes.now given taken (steps.Damaged 0) (none_taken (in_version c.args.version (key_of c.args.file)) c.args.count c.args.bytes.now given taken c.if-count-gt0.false n is) found;
    }

pub returns-in-Entry : goal.returns-in-Entry
returns-in-Entry c =
    let version : ℕ = c.in-Some.version in
    let known = c.in-Some.ensures.0 in
    let head : take 16 c.args.bytes.now ≡ header version c.args.file.number = c.in-Some.ensures.1 in
    let part : between 16 (length c.args.bytes.now) c.args.bytes.now ≡ drop 16 c.args.bytes.now = between_to_end c.args.bytes.now 16 (length c.args.bytes.now) (omega arith) in
    let gate = subst (λ (x : List ℕ). IsAtGate (in_version version (key_of c.args.file)) 0 16 x (steps.Entry c.in-Entry.version c.in-Entry.entry c.in-Entry.used)) part c.in-Entry.ensures in
    let whole = whole_at_gate (in_version version (key_of c.args.file)) 0 16 (drop 16 c.args.bytes.now) (steps.Entry c.in-Entry.version c.in-Entry.entry c.in-Entry.used) known gate in
    record {
      whole = (whole.0, omega arith, omega (arith, whole.2, length-drop 16 c.args.bytes.now), whole.3);
      next = λ given taken n each is place.
          from_nothing (key_of c.args.file) c.args.bytes.now given taken (steps.Entry c.in-Entry.version c.in-Entry.entry (16 + c.in-Entry.used)) (none_taken (in_version c.args.version (key_of c.args.file)) c.args.count c.args.bytes.now given taken c.if-count-gt0.false n is)
          (first_entry version (key_of c.args.file) c.args.bytes.now c.in-Entry.version c.in-Entry.entry c.in-Entry.used known (omega arith) head gate);
    }

pub returns-in_default-step_at_gate : goal.returns-in_default-step_at_gate
returns-in_default-step_at_gate c =
    let version : ℕ = c.in-Some.version in
    let known = c.in-Some.ensures.0 in
    let head : take 16 c.args.bytes.now ≡ header version c.args.file.number = c.in-Some.ensures.1 in
    let part : between 16 (length c.args.bytes.now) c.args.bytes.now ≡ drop 16 c.args.bytes.now = between_to_end c.args.bytes.now 16 (length c.args.bytes.now) (omega arith) in
    let gate = subst (λ (x : List ℕ). IsAtGate (in_version version (key_of c.args.file)) 0 16 x c.step_at_gate-2.result) part c.step_at_gate-2.ensures in
    let found = first_other version (key_of c.args.file) c.args.bytes.now c.step_at_gate-2.result known (omega arith) head c.in_default-step_at_gate.not-Entry gate in
    record {
      whole = found.1;
      next = λ given taken n each is place. from_nothing (key_of c.args.file) c.args.bytes.now given taken c.step_at_gate-2.result (none_taken (in_version c.args.version (key_of c.args.file)) c.args.count c.args.bytes.now given taken c.if-count-gt0.false n is) found.0;
    }
