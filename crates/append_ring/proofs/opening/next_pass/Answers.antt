use Rattle.std.proofs.Common.{ap}
use Rattle.append_ring.proofs.Moves.{makes}
use Rattle.append_ring.proofs.opening.next_pass.Goals as goal

pub another-region-requires-clause-rule : goal.another-region-requires-clause-rule
another-region-requires-clause-rule g c =
    let t = g.T.OfRegion in
    let m = g.met.T.OfRegion in
    let is = c.requires.pass.1 in
    makes t.place t.number t.is_whole t.in_order m.order_empty m.order_front _ _ (ap (λ v. v.pops) is)
