use Rattle.std.proofs.Common.{◌++◌, List, ◌∷◌, [], map, sym, ap, ◌∙◌, subst, arith, length-append}
use Rattle.std.proofs.lemmas.List.{map-append}
use Rattle.run_model.specs.Spent.{first_of}
use Rattle.script_handlers.specs.region_calls.declared.pass.Pass.{Pass}
use Rattle.script_run.specs.Ran.{AllOfPlace, pass_of, lines_in, spent_in}
use Rattle.script_run.specs.Ends.{first_of_all}
use Rattle.script_handlers.specs.declared.handler.Handler.{Handler}
use Rattle.script_run.proofs.AllRan.{first_all_push}
use Rattle.script_run.proofs.handing.give_back.Goals as goal

pub put_back-requires-clause-of : goal.put_back-requires-clause-of
put_back-requires-clause-of g c =
    let place = c.requires.of.0 in
    let o = c.loop-handler.invariant.of place c.requires.of.1 c.requires.of.2 in
    (place, o.0, (subst (λ (l : List (Handler (Pass g.row.N.Denot g.N.LockNaming))). AllOfPlace place l) c.in-Some.ensures.steps.0 o.1).0)

pub loop-handler-preserved : goal.loop-handler-preserved
loop-handler-preserved g c =
    let inv = c.loop-handler.invariant in
    let h = c.in-Some.handler in
    let ys = c.loop-handler.yielded in
    let long = length-append ys (h ∷ []) in
    record {
      back = c.put_back.ensures.back ∙ ap (λ l. l ++ pass_of h ∷ []) inv.back ∙ sym (map-append pass_of ys (h ∷ []));
      out = c.put_back.ensures.out ∙ inv.out;
      parts = c.push_reserved.ensures.items ∙ ap (λ l. l ++ c.of.result ∷ []) inv.parts ∙ ap (λ r. map lines_in ys ++ r ∷ []) c.of.ensures ∙ sym (map-append lines_in ys (h ∷ []));
      len = omega (arith, long, inv.len, c.push_reserved.ensures.len);
      room = c.push_reserved.ensures.capacity ∙ inv.room;
      spent = c.first_of-first.ensures ∙ ap (λ o. first_of o (spent_in h)) inv.spent ∙ sym (ap first_of_all (map-append spent_in ys (h ∷ [])) ∙ first_all_push (map spent_in ys) (spent_in h));
      of = λ place a b.
          let o = inv.of place a b in
          let all = subst (λ (l : List (Handler (Pass g.row.N.Denot g.N.LockNaming))). AllOfPlace place l) c.in-Some.ensures.steps.0 o.1 in
          (c.put_back.ensures.of place o.0 all.0, all.1);
    }

pub returns-clause-of : goal.returns-clause-of
returns-clause-of g c place a b = (c.loop-handler.invariant.of place a b).0
