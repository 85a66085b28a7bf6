use Rattle.std.proofs.Common.{◌≡◌, ◌+◌, ◌∷◌, ◌++◌, [], List, take, sym, ◌∙◌, ap, subst}
use Rattle.std.proofs.lemmas.List.{take_more}
use Rattle.system_fakes.specs.declared.op.Op.{Op}
use Rattle.system_fakes.specs.Held.{Held}
use Rattle.system_fakes.specs.Table.{held_in}
use Rattle.system_fakes.specs.History.{after, quiet, Meets, MeetAll}
use Rattle.system_fakes.specs.Image.{IsPlayed}
use Rattle.system_fakes.proofs.Steps.{tied_more}
use Rattle.system_fakes.proofs.Played.{met_take, met_last}
use Rattle.system_fakes.proofs.crash.played.Goals as goal

pub loop-place-preserved : goal.loop-place-preserved
loop-place-preserved c =
    let calls = c.args.ops.now in
    let i = c.loop-place.place in
    let op = c.index-ops-place.result in
    let first = held_in c.args.first.now in
    let is : take (i + 1) calls ≡ take i calls ++ op ∷ [] = take_more calls i op c.loop-place-test.true ∙ ap (λ (o : Op). take i calls ++ o ∷ []) (sym c.index-ops-place.is) in
    let met = subst (λ (l : List Op). MeetAll (quiet first) l) is (met_take (quiet first) (i + 1) calls c.requires.met) in (
      tied_more first (held_in c.loop-place.truth) (held_in c.apply.new.self) (take i calls) (take (i + 1) calls) op c.loop-place.invariant.0 is c.in_ok-apply.ensures.done,
      subst (λ (l : List Op). IsPlayed (after (quiet first) l) (held_in c.play.new.image)) (sym is)
          (c.in_ok-play.ensures first (take i calls) c.requires.start met (sym c.loop-place.invariant.0) c.loop-place.invariant.1),
    )

pub apply-requires : goal.apply-requires
apply-requires c =
    let calls = c.args.ops.now in
    let i = c.loop-place.place in
    let op = c.index-ops-place.result in
    let first = held_in c.args.first.now in
    let is : take (i + 1) calls ≡ take i calls ++ op ∷ [] = take_more calls i op c.loop-place-test.true ∙ ap (λ (o : Op). take i calls ++ o ∷ []) (sym c.index-ops-place.is) in
    let met = subst (λ (l : List Op). MeetAll (quiet first) l) is (met_take (quiet first) (i + 1) calls c.requires.met) in
    subst (λ (h : Held). Meets h op) (sym c.loop-place.invariant.0) (met_last (quiet first) (take i calls) op met)
