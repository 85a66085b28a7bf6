use Rattle.std.proofs.Common.{◌≡◌, ℕ, ◌+◌, ◌<◌, ◌≤◌, refl, sym, ap, ◌∙◌, subst, arith}
use Rattle.std.specs.Arc.{arc_value}
use Rattle.region_model.specs.Lines.{Line, pending, IsPending, IsNextCall}
use Rattle.region_state.specs.Calls.{AreBelow}
use Rattle.region_state.specs.Outcomes.{outcome_at_end}
use Rattle.region_state.specs.States.{State, write_point}
use Rattle.region_state.proofs.CallLaws.{next_call, below_put, pending_put}
use Rattle.low_trials.proofs.edits.put.Goals as goal

pub begin_edit-entry-requires-clause-call : goal.begin_edit-entry-requires-clause-call
begin_edit-entry-requires-clause-call c =
    rw (ap (λ (s : State). s.lines) c.«in_ok-ready».ensures.same) (next_call record { handler = 1; call = c.args.call } c.args.state.now.lines c.requires.below)

pub end_edit-requires : goal.end_edit-requires
end_edit-requires c =
    rw (ap (λ (s : State). s.lines) c.«begin_edit-entry».ensures.lines) (pending_put c.ready.new.self.lines (pending (write_point c.ready.new.self + 1) record { handler = 1; call = c.args.call } 1000 (arc_value c.«in_ok-batch».batch)) c.«begin_edit-entry».result (sym c.«begin_edit-entry».ensures.number) refl)

pub returns-clause-below : goal.returns-clause-below
returns-clause-below c =
    let before = subst (λ (s : State). AreBelow c.args.call s.lines) (sym c.«in_ok-ready».ensures.same) c.requires.below in
    rw (ap (λ (s : State). s.lines) c.end_edit.ensures.lines, ap (λ (s : State). s.lines) c.«begin_edit-entry».ensures.lines)
    (below_put c.args.call (c.args.call + 1) c.«begin_edit-entry».result (outcome_at_end c.args.ended) c.ready.new.self.lines (pending (write_point c.ready.new.self + 1) record { handler = 1; call = c.args.call } 1000 (arc_value c.«in_ok-batch».batch)) (omega arith) (omega arith) before)
