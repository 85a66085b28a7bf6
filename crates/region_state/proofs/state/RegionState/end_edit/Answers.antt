use Rattle.std.proofs.Common.{◌≡◌, ℕ, ◌-◌, ◌<◌, sym, ap, ◌∙◌, subst, get_or, min, rules, arith, set, List}
use Rattle.region_model.specs.Lines.{Line, IsPending}
use Rattle.region_state.specs.Outcomes.{outcome_at_end}
use Rattle.region_state.specs.States.{State}
use Rattle.region_state.proofs.MarkTies.{pending_at}
use Rattle.region_state.proofs.StateLaws.{region_ended, lines_ended, end_completed, pending_out, read_point_is}
use Rattle.region_state.proofs.state.RegionState.end_edit.Goals as goal

pub overflow_sub-place : goal.overflow_sub-place
overflow_sub-place c =
    let s = c.self.inside in
    let p = subst (λ (w : State). IsPending w.lines c.args.entry) (sym c.self.view_is) c.requires in
    let at = pending_at s.region s.base.last c.args.entry s.lines.items c.self.invariant.journal.numbers p in
    let after : s.base.last < c.args.entry = at.after in
    omega (arith, c.number.ensures, c.last_of.ensures)

pub overflow_sub-place-2 : goal.overflow_sub-place-2
overflow_sub-place-2 c =
    let s = c.self.inside in
    let p = subst (λ (w : State). IsPending w.lines c.args.entry) (sym c.self.view_is) c.requires in
    let at = pending_at s.region s.base.last c.args.entry s.lines.items c.self.invariant.journal.numbers p in
    let after : s.base.last < c.args.entry = at.after in
    omega (arith, c.number.ensures, c.last_of.ensures)

pub index_mut-requires : goal.index_mut-requires
index_mut-requires c =
    let s = c.self.inside in
    let p = subst (λ (w : State). IsPending w.lines c.args.entry) (sym c.self.view_is) c.requires in
    let at = pending_at s.region s.base.last c.args.entry s.lines.items c.self.invariant.journal.numbers p in
    let within = at.within in
    rw (c.number.ensures, c.last_of.ensures) (search (rules, within))

pub complete-requires : goal.complete-requires
complete-requires c =
    let s = c.self.inside in
    let p = subst (λ (w : State). IsPending w.lines c.args.entry) (sym c.self.view_is) c.requires in
    let at = pending_at s.region s.base.last c.args.entry s.lines.items c.self.invariant.journal.numbers p in
    pending_out s.region s.base s.lines.items s.queue.numbers s.layers.merged s.layers.waiting c.args.entry c.self.invariant at

pub invariant_of-self : goal.invariant_of-self
invariant_of-self c =
    let s = c.self.inside in
    let p = subst (λ (w : State). IsPending w.lines c.args.entry) (sym c.self.view_is) c.requires in
    let at = pending_at s.region s.base.last c.args.entry s.lines.items c.self.invariant.journal.numbers p in
    let place : c.number.result - c.last_of.result - 1 ≡ c.args.entry - s.base.last - 1 = (λ i. c.number.ensures i - c.last_of.ensures i - 1) in
    let ends = c.end.ensures ∙ ap (λ (x : Line). record x { outcome = outcome_at_end c.args.ended }) (c.index_mut.ensures.value ∙ ap (λ (k : ℕ). get_or s.lines.items k c.index_mut.result.now) place ∙ at.there c.index_mut.result.now) in
    rw c.complete.ensures.queue
    (region_ended s.region s.base s.lines.items _ s.queue.numbers s.layers.merged s.layers.waiting c.args.entry (outcome_at_end c.args.ended) c.end.new.self c.self.invariant at (end_completed c.args.ended) (ap (λ (k : ℕ). set s.lines.items k c.end.new.self) place) ends)

pub returns-clause-lines : goal.returns-clause-lines
returns-clause-lines c =
    let s = c.self.inside in
    let p = subst (λ (w : State). IsPending w.lines c.args.entry) (sym c.self.view_is) c.requires in
    let at = pending_at s.region s.base.last c.args.entry s.lines.items c.self.invariant.journal.numbers p in
    let place : c.number.result - c.last_of.result - 1 ≡ c.args.entry - s.base.last - 1 = (λ i. c.number.ensures i - c.last_of.ensures i - 1) in
    let ends = c.end.ensures ∙ ap (λ (x : Line). record x { outcome = outcome_at_end c.args.ended }) (c.index_mut.ensures.value ∙ ap (λ (k : ℕ). get_or s.lines.items k c.index_mut.result.now) place ∙ at.there c.index_mut.result.now) in
    let now = lines_ended s.region s.base.last c.args.entry (outcome_at_end c.args.ended) s.lines.items _ c.end.new.self c.self.invariant.journal.numbers at (ap (λ (k : ℕ). set s.lines.items k c.end.new.self) place) ends in
    rw (← c.self.view_is) (ap (λ (l : List Line). record { region = s.region; base = s.base; lines = l; shown = s.shown; room = min (s.lines.cap - s.lines.len) (min c.complete.new.self.room s.layers.room) }) now)

pub returns-clause-point : goal.returns-clause-point
returns-clause-point c = read_point_is _ _ _ _ _ _ c.complete.result (invariant_of-self c) c.complete.ensures.point
