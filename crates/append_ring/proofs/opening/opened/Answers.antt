use Rattle.std.proofs.Common.{ap}
use Rattle.append_ring.proofs.Moves.{bases}
use Rattle.append_ring.proofs.opening.opened.Goals as goal

pub another-spare-requires-clause-rule : goal.another-spare-requires-clause-rule
another-spare-requires-clause-rule g c =
    let t = g.T.OfRegion in
    let m = g.met.T.OfRegion in
    let is = c.requires.pass.1 in
    bases t.place t.number t.is_whole t.in_order m.order_empty m.order_front _ _ _ (ap (λ v. v.pops) is) (ap (λ v. v.made) is)
