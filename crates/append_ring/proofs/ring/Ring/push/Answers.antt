use Rattle.std.proofs.Common.{◌∙◌, sym, subst, arith, ℕ}
use Rattle.crossbeam_queue.specs.Passes.{view}
use Rattle.append_ring.specs.Rules.{base_of, end_of, Follows}
use Rattle.append_ring.proofs.Moves.{pushes, allows}
use Rattle.append_ring.proofs.ring.Ring.push.Goals as goal

pub push_as-requires-clause-rule : goal.push_as-requires-clause-rule
push_as-requires-clause-rule g c =
    let t = g.T.OfRegion in
    let m = g.met.T.OfRegion in
    let v = view c.args.pass.now.pass in
    let is = c.args.pass.now.of in
    let next = subst (λ (r : ℕ). Follows t.number (end_of t.number (base_of v.lasts r) v.pushed) c.args.item) (sym is.0) c.requires.follows in
    (pushes t.place t.number t.is_whole t.in_order m.order_empty m.order_front _ _ v c.args.item (omega (arith, is.0, is.1)) (omega (arith, is.0, is.2)) (c.requires.region ∙ sym is.0) c.requires.whole c.requires.order next, allows t.place t.number t.is_whole t.in_order m.order_empty m.order_front _ _)
