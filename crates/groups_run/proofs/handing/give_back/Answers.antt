use Rattle.std.proofs.Common.{◌++◌, List, ◌∷◌, [], map, sym, ap, ◌∙◌, subst, arith, length-append}
use Rattle.std.proofs.lemmas.List.{map-append}
use Rattle.std.proofs.lemmas.Iterator.Adapters.{YieldsList-from_vec}
use Rattle.std.proofs.lemmas.Iterator.Consumers.{YieldsList-turn}
use Rattle.run_model.specs.Spent.{first_of}
use Rattle.script_run.specs.Ends.{first_of_all}
use Rattle.script_run.proofs.AllRan.{first_all_push}
use Rattle.groups_run.specs.Handing.{AllOfServers, lines_in, spent_in}
use Rattle.groups_run.proofs.Backs.{back_more, back_none, has_room}
use Rattle.groups_run.proofs.handing.give_back.Goals as goal

pub put_back-requires-clause-of : goal.put_back-requires-clause-of
put_back-requires-clause-of g c =
    let s = c.requires.of.0 in
    let o = c.loop-handler.invariant.of s c.requires.of.1 c.requires.of.2 in
    (s, o.0, (subst (AllOfServers s) c.in-Some.ensures.steps.0 o.1).0)

pub put_back-requires-clause-room : goal.put_back-requires-clause-room
put_back-requires-clause-room g c =
    let s = c.requires.of.0 in
    let inv = c.loop-handler.invariant in
    let given = c.into_iter-handler-iterator.ensures.into_iter_gives in
    let all = YieldsList-from_vec {s = c.into_iter-handler-iterator.result} c.args.handlers.items given.0 (omega (arith, given.1, c.args.handlers.ok)) in
    let turn = YieldsList-turn all c.loop-handler.yielded c.loop-handler.handler-iterator c.loop-handler.yielded_by c.next.result c.next.new.self c.in-Some.handler c.in-Some.is c.next.ensures.steps in
    has_room s _ _ _ _ c.loop-handler.passes c.loop-handler.yielded (inv.of s c.requires.of.1 c.requires.of.2).0 inv.back (omega (arith, inv.out, c.requires.passes.0, c.requires.passes.2, c.args.handlers.ok, turn.0))

pub push_reserved-requires : goal.push_reserved-requires
push_reserved-requires g c =
    let inv = c.loop-handler.invariant in
    let given = c.into_iter-handler-iterator.ensures.into_iter_gives in
    let all = YieldsList-from_vec {s = c.into_iter-handler-iterator.result} c.args.handlers.items given.0 (omega (arith, given.1, c.args.handlers.ok)) in
    let turn = YieldsList-turn all c.loop-handler.yielded c.loop-handler.handler-iterator c.loop-handler.yielded_by c.next.result c.next.new.self c.in-Some.handler c.in-Some.is c.next.ensures.steps in
    omega (arith, inv.len, inv.room, c.requires.none.1, c.args.handlers.ok, turn.0)

pub loop-handler-preserved : goal.loop-handler-preserved
loop-handler-preserved g c =
    let inv = c.loop-handler.invariant in
    let h = c.in-Some.handler in
    let ys = c.loop-handler.yielded in
    let long = length-append ys (h ∷ []) in
    record {
      back = back_more c.loop-handler.passes ys h c.put_back.new.self inv.back c.put_back.ensures.back;
      out = c.put_back.ensures.back.first.out ∙ inv.out;
      parts = c.push_reserved.ensures.items ∙ ap (λ l. l ++ c.of.result ∷ []) inv.parts ∙ ap (λ r. map lines_in ys ++ r ∷ []) c.of.ensures ∙ sym (map-append lines_in ys (h ∷ []));
      len = omega (arith, long, inv.len, c.push_reserved.ensures.len);
      room = c.push_reserved.ensures.capacity ∙ inv.room;
      spent = c.first_of-first.ensures ∙ ap (λ o. first_of o (spent_in h)) inv.spent ∙ sym (ap first_of_all (map-append spent_in ys (h ∷ [])) ∙ first_all_push (map spent_in ys) (spent_in h));
      of = λ s a b.
          let o = inv.of s a b in
          let all = subst (AllOfServers s) c.in-Some.ensures.steps.0 o.1 in
          (c.put_back.ensures.of s o.0 all.0, all.1);
    }

pub returns-clause-of : goal.returns-clause-of
returns-clause-of g c s a b = (c.loop-handler.invariant.of s a b).0
