use Rattle.std.proofs.Common.{◌≡◌, ◌∙◌, None, sym, subst, get_or}
use Rattle.std.specs.Prelude.{Option}
use Rattle.append_ring.specs.declared.pass.RingKey.{RingKey}
use Rattle.append_ring.proofs.Places.{at_read, none_inside, out_next}
use Rattle.append_ring.proofs.keys.first_place.Goals as goal

pub loop-place-preserved : goal.loop-place-preserved
loop-place-preserved g c =
    let places = c.args.places.now in
    let i = c.loop-place.place in
    let here : c.index-places-place.result ≡ None = none_inside c.index-places-place.result (sym c.is_some.ensures ∙ c.if-is_some.false) in
    let out = subst (λ (o : Option (RingKey g.row.T.Denot)). o ≡ get_or places i o) here c.index-places-place.is in
    out_next i places c.loop-place.invariant (at_read places i None c.loop-place-test.true out)
