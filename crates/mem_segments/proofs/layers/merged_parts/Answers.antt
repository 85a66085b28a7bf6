use Rattle.std.proofs.Common.{arith, ap, ◌∙◌, ◌-◌, ◌*◌, ◌≤◌, take, ℕ, ◌≡◌, ◌++◌, [], ◌∷◌, map}
use Rattle.std.specs.Arc.{arc_value}
use Rattle.std.specs.FinMap.{len}
use Rattle.cell_model.specs.Order.{Content}
use Rattle.mem_segments.proofs.Layering.{step, end, take_last, given_joined, still_halves, still_halves_alone}
use Rattle.mem_segments.proofs.layers.merged_parts.Goals as goal
use Rattle.mem_segments.proofs.layers.merged_parts.Goals.{then-loop-kept-test+else-len, else-loop-kept-test}

pub loop-kept-preserved : goal.loop-kept-preserved
loop-kept-preserved c =
    let parts = c.args.parts.now in
    let k = c.loop-kept.kept in
    let part = c.index-parts-kept-in-loop-kept.result in
    let b : take k parts ≡ take (k - 1) parts ++ part ∷ [] = take_last parts k part (omega (arith, c.loop-kept-test.true)) c.loop-kept.invariant.within c.index-parts-kept-in-loop-kept.is in
    record {
      within = omega (arith, c.loop-kept.invariant.within);
      content = step arc_value (take k parts) (take (k - 1) parts) part c.loop-kept.newest c.in_ok-newest.newest _ c.in_ok-newest.ensures b c.loop-kept.invariant.content;
      given = given_joined (arc_value part) (arc_value c.loop-kept.newest) (arc_value c.in_ok-newest.newest) c.in_ok-newest.ensures c.loop-kept.invariant.given;
    }

pub returns-clause-content : goal.returns-clause-content
returns-clause-content c = end arc_value c.push.new.self.items c.in_ok-all.all.items (take c.loop-kept.kept c.args.parts.now) c.loop-kept.newest _ c.in_ok-push.ensures.items c.in_ok-all.ensures c.loop-kept.invariant.content

pub returns-clause-halving : goal.returns-clause-halving
returns-clause-halving c =
    let parts = c.args.parts.now in
    let k = c.loop-kept.kept in
    let all = c.push.new.self.items in
    let shared = c.in_ok-all.all.items in
    let newest = c.loop-kept.newest in
    elim c.loop-kept-test.branch [
      | then-loop-kept-test+else-len w ↦
          let part = w.index-parts-kept.result in
          let new_len = w.len.ensures ∙ ap (λ (m : Content). len m) w.deref.ensures in
          let old_len = w.len-in-loop-kept.ensures ∙ ap (λ (m : Content). len m) w.deref-in-loop-kept.ensures in
          let le : 2 * len (arc_value newest) ≤ len (arc_value part) = omega (arith, new_len, old_len, w.if-len.false) in
          let last : take k parts ≡ take (k - 1) parts ++ part ∷ [] = take_last parts k part (omega (arith, w.loop-kept-test.true)) c.loop-kept.invariant.within w.index-parts-kept.is in
          still_halves arc_value k parts all shared (take (k - 1) parts) part newest c.requires.halving c.in_ok-push.ensures.items c.in_ok-all.ensures last le c.loop-kept.invariant.given
      | else-loop-kept-test w ↦
          let none : k ≡ 0 = omega (arith, w.loop-kept-test.false) in
          still_halves_alone arc_value parts all shared newest c.in_ok-push.ensures.items (c.in_ok-all.ensures ∙ ap (λ (n : ℕ). map arc_value (take n parts)) none) c.loop-kept.invariant.given
    ]
