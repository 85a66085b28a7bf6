use Rattle.std.proofs.Common.{◌≡◌, ◌+◌, ◌++◌, [], ◌∷◌, List, length, None, sym, ap, ◌∙◌, subst, refl, arith, length-append}
use Rattle.groups_run.specs.Dealing.{groups_out}
use Rattle.group_calls.specs.declared.groups.GroupPass.{GroupPass}
use Rattle.group_calls.specs.script_handlers.declared.handler.Handler.{Handler}
use Rattle.groups_run.specs.Handing.{AllOfServers, AreTaken}
use Rattle.groups_run.proofs.Backs.{next_fresh, none_next, none_out}
use Rattle.groups_run.proofs.Handled.{of_push, taken_push}
use Rattle.groups_run.proofs.handing.take_passes.Goals as goal

pub next-requires-in-loop-room : goal.next-requires-in-loop-room
next-requires-in-loop-room g c = record { of = (c.requires.of.0, (c.loop-room.invariant.of c.requires.of.0 c.requires.of.1).0) }

pub loop-room-preserved : goal.loop-room-preserved
loop-room-preserved g c =
    let inv = c.loop-room.invariant in
    let s = c.requires.of.0 in
    let some = c.in-Some-next.ensures.some in
    let long = length-append c.loop-room.yielded (c.in-Some.room ∷ []) in
    let number : 1 + length c.loop-room.yielded ≡ groups_out c.loop-room.passes + 1 = omega (arith, inv.out) in
    let fresh = next_fresh s _ _ _ _ (1 + length c.loop-room.yielded) c.loop-room.passes c.in-Some-next.pass _ (inv.of s c.requires.of.1).0 some.1 number in
    let h : Handler (GroupPass g.row.N1.Denot g.row.N2.Denot g.row.N3.Denot g.row.N4.Denot g.N1.LockNaming g.N2.LockNaming g.N3.LockNaming g.N4.LockNaming) =
    record { pass = c.in-Some-next.pass; calls = c.in-Some.room.calls; replies = c.in-Some.room.replies; spent = None } in
    let pushed = taken_push 1 c.loop-room.yielded c.in-Some.room c.loop-room.handlers.items h inv.taken (record { fresh = fresh; calls = refl; replies = refl; spent = refl }) in
    record {
      taken = subst (AreTaken 1 (c.loop-room.yielded ++ c.in-Some.room ∷ [])) (sym c.push_reserved.ensures.items) pushed;
      out = omega (arith, long, inv.out, some.1.first.out);
      back = none_next c.loop-room.passes c.in-Some-next.pass _ some.1 inv.back;
      len = omega (arith, long, inv.len, c.push_reserved.ensures.len);
      room = c.push_reserved.ensures.capacity ∙ inv.room;
      of = λ s a.
          let o = inv.of s a in
          let n = c.in-Some-next.ensures.of s o.0 in
          (n.0, subst (AllOfServers s) (sym c.push_reserved.ensures.items) (of_push s c.loop-room.handlers.items h o.1 n.1));
    }

pub loop-room-init : goal.loop-room-init
loop-room-init g c = record {
  taken = subst (AreTaken 1 []) (sym c.requires.none.0) tt;
  out = c.requires.passes.first.0;
  back = none_out c.args.passes.now c.requires.passes;
  len = c.args.handlers.now.ok.0 ∙ ap length c.requires.none.0;
  room = refl;
  of = λ s a. (a, subst (AllOfServers s) (sym c.requires.none.0) tt);
}
