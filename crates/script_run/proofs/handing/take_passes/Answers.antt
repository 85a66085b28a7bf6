use Rattle.std.proofs.Common.{◌≡◌, ◌+◌, ◌++◌, [], ◌∷◌, List, length, None, sym, ◌∙◌, subst, refl, arith, length-append}
use Rattle.server_model.specs.Pass.{IsFresh}
use Rattle.script_handlers.specs.region_calls.Passes.{knows}
use Rattle.script_handlers.specs.region_calls.Deals.{passes_out}
use Rattle.script_handlers.specs.region_calls.declared.pass.Pass.{Pass}
use Rattle.script_run.specs.Ran.{AllOfPlace}
use Rattle.script_run.specs.Rooms.{AreTaken}
use Rattle.script_handlers.specs.declared.handler.Handler.{Handler}
use Rattle.script_run.proofs.AllRan.{taken_push, of_push}
use Rattle.script_run.proofs.handing.take_passes.Goals as goal

pub next-requires-in-loop-room : goal.next-requires-in-loop-room
next-requires-in-loop-room g c = record { of = (c.requires.of.0, (c.loop-room.invariant.of c.requires.of.0 c.requires.of.1).0) }

pub loop-room-preserved : goal.loop-room-preserved
loop-room-preserved g c =
    let inv = c.loop-room.invariant in
    let some = c.in-Some-next.ensures.some in
    let long = length-append c.loop-room.yielded (c.in-Some.room ∷ []) in
    let number : passes_out c.loop-room.passes + 1 ≡ 1 + length c.loop-room.yielded = omega (arith, inv.out) in
    let fresh = subst (λ n. IsFresh n (knows c.in-Some-next.pass)) number some.2 in
    let h : Handler (Pass g.row.N.Denot g.N.LockNaming) = record { pass = c.in-Some-next.pass; calls = c.in-Some.room.calls; replies = c.in-Some.room.replies; spent = None } in
    let pushed = taken_push 1 c.loop-room.yielded c.in-Some.room c.loop-room.handlers.items h inv.taken (record { fresh = fresh; calls = refl; replies = refl; spent = refl }) in
    record {
      taken = subst (AreTaken 1 (c.loop-room.yielded ++ c.in-Some.room ∷ [])) (sym c.push_reserved.ensures.items) pushed;
      out = omega (arith, long, inv.out, some.1);
      back = c.in-Some-next.ensures.back ∙ inv.back;
      len = omega (arith, long, inv.len, c.push_reserved.ensures.len);
      room = c.push_reserved.ensures.capacity ∙ inv.room;
      of = λ place a.
          let o = inv.of place a in
          let n = c.in-Some-next.ensures.of place o.0 in
          (n.0, subst (λ (l : List (Handler (Pass g.row.N.Denot g.N.LockNaming))). AllOfPlace place l) (sym c.push_reserved.ensures.items) (of_push place c.loop-room.handlers.items h o.1 n.1));
    }
