use Rattle.std.proofs.Common.{◌≡◌, ℕ, List, sym, ap, ◌∙◌, subst}
use Rattle.region_model.specs.Lines.{Line}
use Rattle.region_state.specs.States.{State}
use Rattle.region_lock.specs.Histories.{HasShown}
use Rattle.region_lock.proofs.locked.Locked.show.Goals as goal

pub show_in-requires-clause-shown : goal.show_in-requires-clause-shown
show_in-requires-clause-shown g c =
    let h = c.self.inside.history in
    let seen = c.self.inside.shower.shown in
    let shown = c.self.invariant.2 in
    let lines : c.journal.result.now ≡ c.self.inside.state.lines = c.journal.ensures.lines ∙ ap (λ (s : State). s.lines) c.next_version.ensures.same in
    subst (λ (l : List Line). HasShown h.region l h seen) (sym lines) (subst (λ (r : ℕ). HasShown r c.self.inside.state.lines h seen) (sym shown.region) shown)

pub invariant_of-self : goal.invariant_of-self
invariant_of-self g c = rw c.next_version.ensures.same c.self.invariant

pub invariant_of-self-2 : goal.invariant_of-self-2
invariant_of-self-2 g c =
    let i = c.self.invariant in
    let s : State = c.self.inside.state in
    let h = c.show_in.new.history in
    let seen = c.show_in.new.shower.shown in
    let lines : c.journal.result.now ≡ s.lines = c.journal.ensures.lines ∙ ap (λ (t : State). t.lines) c.next_version.ensures.same in
    let shown : HasShown s.region s.lines h seen = subst (λ (l : List Line). HasShown s.region l h seen) lines (subst (λ (r : ℕ). HasShown r c.journal.result.now h seen) i.2.region c.show_in.ensures.shown) in
    rw c.next_version.ensures.same (i.0, i.1, shown)
