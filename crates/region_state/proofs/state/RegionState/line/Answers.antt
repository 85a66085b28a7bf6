use Rattle.std.proofs.Common.{◌<◌, ◌≤◌, sym, subst}
use Rattle.region_state.specs.States.{State, write_point}
use Rattle.region_state.proofs.MarkTies.{line_numbered}
use Rattle.region_state.proofs.state.RegionState.line.Goals as goal

pub returns-clause-number : goal.returns-clause-number
returns-clause-number c =
    let s = c.self.inside in
    let n = c.args.number in
    let behind = subst (λ (w : State). w.base.last < n) (sym c.self.view_is) c.requires.behind in
    let within = subst (λ (w : State). n ≤ write_point w) (sym c.self.view_is) c.requires.within in
    line_numbered s.region s.base s.lines.items n c.last_of.result c.index.result.now c.self.invariant.journal.numbers c.last_of.ensures behind within c.index.ensures
