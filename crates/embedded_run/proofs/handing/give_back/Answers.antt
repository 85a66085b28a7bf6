use Rattle.std.proofs.Common.{◌++◌, List, ◌∷◌, [], map, length, sym, ap, ◌∙◌, subst, arith, length-append}
use Rattle.std.proofs.lemmas.List.{length-map, map-append}
use Rattle.std.proofs.lemmas.Iterator.Adapters.{YieldsList-from_vec}
use Rattle.std.proofs.lemmas.Iterator.Consumers.{YieldsList-turn}
use Rattle.embedded.specs.region_calls.Passes.{knows}
use Rattle.embedded.specs.region_calls.declared.pass.Pass.{Pass}
use Rattle.embedded_run.specs.Seats.{IsAt, AllAt, known_in, pass_in, handler_in}
use Rattle.embedded_run.specs.declared.seated.Seated.{Seated}
use Rattle.embedded_run.proofs.handing.give_back.Goals as goal

-- the handler has its pass
pub unreachable-requires : goal.unreachable-requires
unreachable-requires g c =
    let place = c.requires.of.0 in
    let o = c.loop-one.invariant.of place c.requires.of.1 c.requires.of.2 in
    subst (λ p. IsAt place p) c.in_default.is (subst (λ (l : List (Seated (Pass g.row.N.Denot g.N.LockNaming) g.row.H.Denot)). AllAt place l) c.in-Some.ensures.steps.0 o.1).0

pub put_back-requires-clause-of : goal.put_back-requires-clause-of
put_back-requires-clause-of g c =
    let place = c.requires.of.0 in
    let o = c.loop-one.invariant.of place c.requires.of.1 c.requires.of.2 in
    (place, o.0, subst (λ p. IsAt place p) c.in-Some-pass.is (subst (λ (l : List (Seated (Pass g.row.N.Denot g.N.LockNaming) g.row.H.Denot)). AllAt place l) c.in-Some.ensures.steps.0 o.1).0)

pub put_back-requires-clause-out : goal.put_back-requires-clause-out
put_back-requires-clause-out g c =
    let given = c.into_iter-one-iterator.ensures.into_iter_gives in
    let all = YieldsList-from_vec {s = c.into_iter-one-iterator.result} c.args.seated.items given.0 (omega (arith, given.1, c.args.seated.ok)) in
    let turn = YieldsList-turn all c.loop-one.yielded c.loop-one.one-iterator c.loop-one.yielded_by c.next.result c.next.new.self c.in-Some.one c.in-Some.is c.next.ensures.steps in
    let known = ap length c.loop-one.invariant.back ∙ length-map c.loop-one.yielded pass_in in
    omega (arith, known, c.loop-one.invariant.out, c.requires.passes.0, c.requires.passes.2, turn.0)

pub loop-one-preserved : goal.loop-one-preserved
loop-one-preserved g c =
    let inv = c.loop-one.invariant in
    let one = c.in-Some.one in
    let ys = c.loop-one.yielded in
    let long = length-append ys (one ∷ []) in
    record {
      back = c.put_back.ensures.back ∙ ap (λ l. l ++ knows c.in-Some-pass.pass ∷ []) inv.back ∙ ap (λ p. map pass_in ys ++ known_in p ∷ []) (sym c.in-Some-pass.is) ∙ sym (map-append pass_in ys (one ∷ []));
      out = c.put_back.ensures.out ∙ inv.out;
      handlers = c.push_reserved.ensures.items ∙ ap (λ l. l ++ one.handler ∷ []) inv.handlers ∙ sym (map-append handler_in ys (one ∷ []));
      len = omega (arith, long, inv.len, c.push_reserved.ensures.len);
      room = c.push_reserved.ensures.capacity ∙ inv.room;
      of = λ place a b.
          let o = inv.of place a b in
          let all = subst (λ (l : List (Seated (Pass g.row.N.Denot g.N.LockNaming) g.row.H.Denot)). AllAt place l) c.in-Some.ensures.steps.0 o.1 in
          (c.put_back.ensures.of place o.0 (subst (λ p. IsAt place p) c.in-Some-pass.is all.0), all.1);
    }

pub returns-clause-of : goal.returns-clause-of
returns-clause-of g c place a b = (c.loop-one.invariant.of place a b).0
