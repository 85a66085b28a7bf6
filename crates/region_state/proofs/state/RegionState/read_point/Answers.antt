use Rattle.std.proofs.Common.{◌≤◌, subst, arith}
use Rattle.region_state.specs.States.{State, IsReadPoint, write_point}
use Rattle.region_state.proofs.MarkTies.{point_within}
use Rattle.region_state.proofs.StateLaws.{mark_point, read_point_is}
use Rattle.region_state.proofs.state.RegionState.read_point.Goals as goal

pub returns-clause-point : goal.returns-clause-point
returns-clause-point c =
    let P : State → Type 0 = λ s. IsReadPoint s c.read_point.result in
    subst P c.self.view_is (read_point_is _ _ _ _ _ _ c.read_point.result c.self.invariant c.read_point.ensures)

pub returns-clause-within : goal.returns-clause-within
returns-clause-within c =
    let s = c.self.inside in
    let p = c.read_point.result in
    let at = mark_point s.region s.base s.lines.items s.queue.numbers s.layers.merged s.layers.waiting p c.self.invariant c.read_point.ensures in
    let least : s.base.last ≤ p = at.least in
    let in' = point_within s.base.last p s.lines.items at in
    let P : State → Type 0 = λ w. p ≤ write_point w in
    subst P c.self.view_is (omega arith)
