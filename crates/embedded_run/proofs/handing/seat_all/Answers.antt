use Rattle.std.proofs.Common.{◌≡◌, ◌+◌, ◌++◌, [], ◌∷◌, List, length, Some, sym, ◌∙◌, subst, refl, arith, length-append}
use Rattle.server_model.specs.Pass.{IsFresh}
use Rattle.embedded.specs.region_calls.Passes.{knows}
use Rattle.embedded.specs.region_calls.Deals.{passes_out}
use Rattle.embedded.specs.region_calls.declared.pass.Pass.{Pass}
use Rattle.embedded_run.specs.Seats.{AllAt, AreTaken}
use Rattle.embedded_run.specs.declared.seated.Seated.{Seated}
use Rattle.embedded_run.proofs.Seating.{taken_push, at_push}
use Rattle.embedded_run.proofs.handing.seat_all.Goals as goal

pub next-requires-in-loop-handler : goal.next-requires-in-loop-handler
next-requires-in-loop-handler g c = record { of = (c.requires.of.0, (c.loop-handler.invariant.of c.requires.of.0 c.requires.of.1).0) }

pub loop-handler-preserved : goal.loop-handler-preserved
loop-handler-preserved g c =
    let inv = c.loop-handler.invariant in
    let some = c.in-Some-next.ensures.some in
    let long = length-append c.loop-handler.yielded (c.in-Some.handler ∷ []) in
    let number : passes_out c.loop-handler.passes + 1 ≡ 1 + length c.loop-handler.yielded = omega (arith, inv.out) in
    let fresh = subst (λ n. IsFresh n (knows c.in-Some-next.pass)) number some.2 in
    let s : Seated (Pass g.row.N.Denot g.N.LockNaming) g.row.H.Denot = record { pass = Some c.in-Some-next.pass; handler = c.in-Some.handler } in
    let pushed = taken_push 1 c.loop-handler.yielded c.in-Some.handler c.loop-handler.seated.items s inv.taken (record { handler = refl; fresh = fresh }) in
    record {
      taken = subst (AreTaken 1 (c.loop-handler.yielded ++ c.in-Some.handler ∷ [])) (sym c.push_reserved.ensures.items) pushed;
      out = omega (arith, long, inv.out, some.1);
      back = c.in-Some-next.ensures.back ∙ inv.back;
      len = omega (arith, long, inv.len, c.push_reserved.ensures.len);
      room = c.push_reserved.ensures.capacity ∙ inv.room;
      of = λ place a.
          let o = inv.of place a in
          let n = c.in-Some-next.ensures.of place o.0 in
          (n.0, subst (λ (l : List (Seated (Pass g.row.N.Denot g.N.LockNaming) g.row.H.Denot)). AllAt place l) (sym c.push_reserved.ensures.items) (at_push place c.loop-handler.seated.items s o.1 n.1));
    }
