use Rattle.std.proofs.Common.{rules, ◌≡◌, ℕ, ◌+◌, ◌-◌, ◌<◌, min, List, length, get_or, sym, ap, ◌∙◌, arith, length-set}
use Rattle.crossbeam_queue.specs.Passes.{view}
use Rattle.append_ring.specs.Rules.{of}
use Rattle.std.proofs.lemmas.Grind.{get_or_default_zero}
use Rattle.append_ring.proofs.Lists.{counts_one_more}
use Rattle.append_ring.proofs.Moves.{pops, allows}
use Rattle.append_ring.proofs.ring.Ring.pop.Goals as goal

pub pop_as-requires-clause-rule : goal.pop_as-requires-clause-rule
pop_as-requires-clause-rule g c =
    let t = g.T.OfRegion in
    let m = g.met.T.OfRegion in
    (pops t.place t.number t.is_whole t.in_order m.order_empty m.order_front _ _ c.args.pass.now.pops, allows t.place t.number t.is_whole t.in_order m.order_empty m.order_front _ _)

pub invariant_of-pass-2 : goal.invariant_of-pass-2
invariant_of-pass-2 g c =
    let t = g.T.OfRegion in
    let m = g.met.T.OfRegion in
    let p = c.args.pass.now in
    let told = c.in_ok-item.ensures.rule in
    let x = c.in_ok-item.item in
    let at : ℕ = c.region.result - 1 in
    let new : ℕ = c.saturating_add.result in
    let is : t.place x ≡ at + 1 = omega (arith, c.region.ensures, told.good.1) in
    let far : at < length p.counts.items = omega (arith, c.region.ensures, told.good.1, told.good.2, p.regions) in
    let added : new ≡ min (get_or p.counts.items at 0 + 1) (18446744073709551615) = omega (arith, get_or_default_zero p.counts.items at c.index-count.result.now far) in
    record {
      regions = length-set p.counts.items at new ∙ (p.regions ∙ sym (ap (λ v. length v.lasts) told.now));
      counted = λ i low. counts_one_more t.place (view p.pass).popped x p.counts.items at new 18446744073709551615 is far p.counted added i low
          ∙ ap (λ (l : List g.row.T.Denot). min (length (of t.place (i + 1) l)) 18446744073709551615) (sym (ap (λ v. v.popped) told.now));
      home = search rules;
      pops = ap (λ v. v.pops) told.now ∙ p.pops;
    }
