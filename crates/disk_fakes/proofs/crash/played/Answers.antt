use Rattle.std.proofs.Common.{◌≡◌, ◌+◌, ◌-◌, ◌∷◌, ◌++◌, [], List, length, take, drop, sym, ◌∙◌, ap, subst}
use Rattle.std.proofs.lemmas.List.{take_more, drop_more, take_rest}
use Rattle.disk_fakes.specs.declared.op.Op.{Op}
use Rattle.disk_fakes.specs.Table.{files_in}
use Rattle.disk_fakes.specs.History.{after, quiet, MeetAll}
use Rattle.disk_fakes.specs.Candidate.{IsCandidate}
use Rattle.disk_fakes.proofs.Played.{met_take}
use Rattle.disk_fakes.proofs.crash.played.Goals as goal

pub loop-place-preserved : goal.loop-place-preserved
loop-place-preserved c =
    let calls = c.args.calls.now in
    let i = c.loop-place.place in
    let op = c.index-calls-place.result in
    let first = files_in c.args.first.now in
    let is : take (i + 1) calls ≡ take i calls ++ op ∷ [] = take_more calls i op c.loop-place-test.true ∙ ap (λ (o : Op). take i calls ++ o ∷ []) (sym c.index-calls-place.is) in
    let from : drop i calls ≡ op ∷ drop (i + 1) calls = drop_more calls i op c.loop-place-test.true ∙ ap (λ (o : Op). o ∷ drop (i + 1) calls) (sym c.index-calls-place.is) in
    let met = subst (λ (l : List Op). MeetAll (quiet first) l) is (met_take (quiet first) (i + 1) calls c.requires.met) in
    let was = subst (λ (l : List Op). IsCandidate (after (quiet first) (take i calls)) l (files_in c.loop-place.image)) from c.loop-place.invariant in
    let rest : take (length calls - (i + 1)) (drop (i + 1) calls) ≡ drop (i + 1) calls = take_rest calls (i + 1) in
    let before = subst (λ (l : List Op). IsCandidate (after (quiet first) (take i calls)) (op ∷ l) (files_in c.loop-place.image)) (sym rest) was in
    let now = c.in_ok-play.ensures first (take i calls) c.requires.named met before in
    subst (λ (l : List Op). IsCandidate (after (quiet first) l) (drop (i + 1) calls) (files_in c.play.new.image)) (sym is)
    (subst (λ (l : List Op). IsCandidate (after (quiet first) (take i calls ++ op ∷ [])) l (files_in c.play.new.image)) rest now)
