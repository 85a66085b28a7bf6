use Rattle.std.proofs.Common.{◌≡◌, ◌∙◌, List, Some, None, arith, sym, ap, subst, length, get_or, false, true≢false}
use Rattle.std.specs.Prelude.{Option, slice_get, IsTrue}
use Rattle.crossbeam_queue.specs.Passes.{view}
use Rattle.append_ring.specs.declared.pass.RingKey.{RingKey}
use Rattle.append_ring.specs.Parts.{EachThere, IsDrained, AreInPlace}
use Rattle.append_ring.proofs.Places.{at_read, none_out, each_at, each_next, in_place_at}
use Rattle.append_ring.proofs.ring.Ring.drained.Goals as goal

pub unreachable-requires : goal.unreachable-requires
unreachable-requires g c =
    let places = c.deref-place-items.result.now in
    let i = c.loop-place.place-index in
    let is = c.deref-place-items.ensures.value ∙ c.passes.view_is in
    let here = subst (λ (o : Option (RingKey g.row.T.Denot)). o ≡ get_or places i o) c.in_default.is c.place-item.is in
    none_out _ places i (subst (EachThere (λ (p : RingKey g.row.T.Denot). p.pass.table_id ≡ c.args.self.now.id)) (sym is) c.requires.there) (at_read places i None c.loop-place-test.true here)

pub is_drained-requires : goal.is_drained-requires
is_drained-requires g c =
    let places = c.deref-place-items.result.now in
    let i = c.loop-place.place-index in
    let is = c.deref-place-items.ensures.value ∙ c.passes.view_is in
    let here = subst (λ (o : Option (RingKey g.row.T.Denot)). o ≡ get_or places i o) c.in-Some.is c.place-item.is in
    let at = at_read places i (Some c.in-Some.pass) c.loop-place-test.true here in
    let r = in_place_at 0 places i c.in-Some.pass (subst (AreInPlace {T = g.row.T.Denot} 0) (sym c.deref-place-items.ensures.value) c.passes.invariant) at in
    omega (arith, r.0, r.1, ap length is, c.requires.all)

pub returns-then-not-is_drained : goal.returns-then-not-is_drained
returns-then-not-is_drained g c =
    let places = c.deref-place-items.result.now in
    let i = c.loop-place.place-index in
    let is = c.deref-place-items.ensures.value ∙ c.passes.view_is in
    let here = subst (λ (o : Option (RingKey g.row.T.Denot)). o ≡ get_or places i o) c.in-Some.is c.place-item.is in
    let at = subst (λ (l : List (Option (RingKey g.row.T.Denot))). slice_get l i ≡ Some (Some c.in-Some.pass)) is (at_read places i (Some c.in-Some.pass) c.loop-place-test.true here) in
    let no = c.if-not-is_drained.true in
    let is_so = IsDrained g.T.OfRegion.place (view c.args.consumer.now.pass).popped in
    (λ (t : IsTrue false). absurd (true≢false (sym t)), λ (all : EachThere is_so c.args.passes.now). sym no ∙ c.is_drained.ensures.1 (each_at is_so c.args.passes.now i c.in-Some.pass all at))

pub loop-place-preserved : goal.loop-place-preserved
loop-place-preserved g c =
    let places = c.deref-place-items.result.now in
    let i = c.loop-place.place-index in
    let is = c.deref-place-items.ensures.value ∙ c.passes.view_is in
    let here = subst (λ (o : Option (RingKey g.row.T.Denot)). o ≡ get_or places i o) c.in-Some.is c.place-item.is in
    let at = subst (λ (l : List (Option (RingKey g.row.T.Denot))). slice_get l i ≡ Some (Some c.in-Some.pass)) is (at_read places i (Some c.in-Some.pass) c.loop-place-test.true here) in
    each_next (IsDrained g.T.OfRegion.place (view c.args.consumer.now.pass).popped) c.args.passes.now i c.in-Some.pass c.loop-place.invariant at (c.is_drained.ensures.0 c.if-not-is_drained.false)
