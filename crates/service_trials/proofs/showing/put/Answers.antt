use Rattle.std.proofs.Common.{◌≡◌, ◌+◌, [], ◌∷◌, ◌++◌, refl, sym, ap, ◌∙◌, subst, arith}
use Rattle.std.specs.Arc.{arc_value}
use Rattle.region_model.specs.Lines.{pending, with_outcome}
use Rattle.region_state.specs.Calls.{AreBelow}
use Rattle.region_state.specs.Outcomes.{outcome_at_end}
use Rattle.region_state.specs.States.{State, write_point}
use Rattle.region_state.proofs.CallLaws.{next_call, below_put, pending_put}
use Rattle.region_state.specs.declared.line.Ended.TheVariants as end
use Rattle.service_trials.proofs.OneMore.{one_more}
use Rattle.service_trials.proofs.showing.put.Goals as goal

pub begin_edit-entry-requires-clause-call : goal.begin_edit-entry-requires-clause-call
begin_edit-entry-requires-clause-call c =
    rw (ap (λ (s : State). s.lines) c.«in_ok-ready».ensures.same) (next_call record { handler = 1; call = c.args.call } c.args.state.now.lines c.requires.below)

pub end_edit-requires : goal.end_edit-requires
end_edit-requires c =
    rw (ap (λ (s : State). s.lines) c.«begin_edit-entry».ensures.lines) (pending_put c.ready.new.self.lines (pending (write_point c.ready.new.self + 1) record { handler = 1; call = c.args.call } 1000 (arc_value c.args.batch)) c.«begin_edit-entry».result (sym c.«begin_edit-entry».ensures.number) refl)

pub returns-clause-below : goal.returns-clause-below
returns-clause-below c =
    let before = subst (λ (s : State). AreBelow c.args.call s.lines) (sym c.«in_ok-ready».ensures.same) c.requires.below in
    rw (ap (λ (s : State). s.lines) c.end_edit.ensures.lines, ap (λ (s : State). s.lines) c.«begin_edit-entry».ensures.lines)
    (below_put c.args.call (c.args.call + 1) c.«begin_edit-entry».result (outcome_at_end end.Done) c.ready.new.self.lines (pending (write_point c.ready.new.self + 1) record { handler = 1; call = c.args.call } 1000 (arc_value c.args.batch)) (omega arith) (omega arith) before)

pub returns-clause-lines : goal.returns-clause-lines
returns-clause-lines c =
    let old = c.args.state.now in
    let ready = c.«in_ok-ready».ensures.same in
    let entry = c.«begin_edit-entry».result in
    let line = pending (write_point c.ready.new.self + 1) record { handler = 1; call = c.args.call } 1000 (arc_value c.args.batch) in
    let drawn : entry ≡ write_point old + 1 = c.«begin_edit-entry».ensures.number ∙ ap (λ (s : State). write_point s + 1) ready in
    let more = one_more old.region old.base.last entry (outcome_at_end end.Done) old.lines line c.journal-numbered.ensures.journal.numbers (omega (arith, drawn)) in
    let begun = ap (λ (s : State). s.lines) c.«begin_edit-entry».ensures.lines ∙ ap (λ (s : State). s.lines ++ line ∷ []) ready in
    (more.0, ap (λ (s : State). s.lines) c.end_edit.ensures.lines ∙ ap (with_outcome entry (outcome_at_end end.Done)) begun ∙ more.1)
