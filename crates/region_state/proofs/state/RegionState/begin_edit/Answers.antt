use Rattle.std.proofs.Common.{◌≡◌, ℕ, ◌+◌, ◌<◌, ◌≤◌, ◌^◌, length, refl, sym, ap, ◌∙◌, subst}
use Rattle.std.specs.Arc.{arc_value}
use Rattle.cell_model.specs.Batch.{Batch}
use Rattle.region_model.specs.Lines.{pending, last_in, IsNextCall}
use Rattle.region_state.specs.Layers.{cells_alone}
use Rattle.region_state.specs.States.{State}
use Rattle.region_state.proofs.StateLaws.{region_begun, queue_end}
use Rattle.region_state.proofs.state.RegionState.begin_edit.Goals as goal

pub invariant_of-self : goal.invariant_of-self
invariant_of-self c =
    let is = c.self.invariant in
    let s = c.self.inside in
    let batch = arc_value c.args.batch in
    let n = c.«number-number».result in
    let number : n ≡ last_in s.base s.lines.items + 1 = c.«number-number».ensures ∙ c.«begin-entry».ensures.number ∙ ap (λ (k : ℕ). k + 1) (queue_end s.region s.base s.lines.items s.queue.numbers s.layers.merged s.layers.waiting is) in
    let limit = subst (λ (w : State). last_in w.base w.lines + 1 < 2 ^ 48) (sym c.self.view_is) c.requires.number in
    let next = subst (λ (w : State). IsNextCall c.args.caller w.lines) (sym c.self.view_is) c.requires.call in
    let given = subst (λ (b : Batch). 1 ≤ length b.cells) c.deref.ensures c.«as_slice-cells».ensures.within.given in
    let alone : c.of_draft.result ≡ cells_alone (pending n c.args.caller c.args.time batch) = c.of_draft.ensures ∙ c.requires.draft n in
    rw (c.push_reserved.ensures.items, c.«begin-entry».ensures.queue, c.push.ensures, c.new.ensures)
    (region_begun s.region s.base s.lines.items s.queue.numbers s.layers.merged s.layers.waiting (pending n c.args.caller c.args.time batch) c.of_draft.result is number limit refl given next alone)
