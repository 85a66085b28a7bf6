use Rattle.std.proofs.Common.{◌≡◌, sym, ap, ◌∙◌, arith}
use Rattle.crossbeam_queue.specs.Passes.{view}
use Rattle.append_ring.specs.declared.knows.Knows.{Knows}
use Rattle.append_ring.proofs.Moves.{compares, adds_up}
use Rattle.append_ring.proofs.ring.Ring.settle.Goals as goal

pub absorb-requires-clause-rule : goal.absorb-requires-clause-rule
absorb-requires-clause-rule g c =
    let t = g.T.OfRegion in
    let m = g.met.T.OfRegion in
    let r : (view c.into_pass.result).region ≡ c.args.pass.region = ap (λ p. (view {V = Knows g.row.T.Denot} p).region) c.into_pass.ensures ∙ c.args.pass.of.0 in
    compares t.place t.number t.is_whole t.in_order m.order_empty m.order_front _ _ _ (view c.into_pass.result) c.args.consumer.now.pops (λ z. omega (arith, c.args.pass.of.1, r, z))

pub learn_as-requires-clause-rule : goal.learn_as-requires-clause-rule
learn_as-requires-clause-rule g c =
    let t = g.T.OfRegion in
    let m = g.met.T.OfRegion in
    let r : (view c.into_pass.result).region ≡ c.args.pass.region = ap (λ p. (view {V = Knows g.row.T.Denot} p).region) c.into_pass.ensures ∙ c.args.pass.of.0 in
    let now = c.absorb.ensures.rule in
    adds_up t.place t.number t.is_whole t.in_order m.order_empty m.order_front _ _ (ap (λ v. v.pops) now ∙ c.args.consumer.now.pops) (λ z. omega (arith, c.args.pass.of.1, sym r ∙ (sym (ap (λ v. v.region) now) ∙ z)))
