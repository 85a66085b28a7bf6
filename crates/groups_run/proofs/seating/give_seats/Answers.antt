use Rattle.std.proofs.Common.{ap, subst, arith}
use Rattle.std.specs.Vec.Iter.{into_iter_items}
use Rattle.groups_run.specs.Helpers.{held}
use Rattle.groups_run.specs.Seating.{AllHelp, seats_of}
use Rattle.groups_run.proofs.Seats.{given_more, room_for}
use Rattle.groups_run.proofs.seating.give_seats.Goals as goal

pub put_back-requires-clause-of : goal.put_back-requires-clause-of
put_back-requires-clause-of c =
    let s = c.requires.of.0 in
    let o = c.loop-seat.invariant.of s c.requires.of.1 c.requires.of.2 in
    (s, o.0, (subst (AllHelp s) c.in-Some.ensures.steps.0 o.1).0)

pub put_back-requires-clause-room : goal.put_back-requires-clause-room
put_back-requires-clause-room c =
    let k = c.in-Some.seat.group in
    let few = c.requires.room k in
    let given = c.loop-seat.invariant.given k in
    let step = ap (seats_of k) c.in-Some.ensures.steps.0 in
    room_for (held c.loop-seat.helpers k) c.in-Some.seat (into_iter_items c.next.new.self) (omega (arith, few, given, step))

pub loop-seat-preserved : goal.loop-seat-preserved
loop-seat-preserved c =
    let inv = c.loop-seat.invariant in
    record {
      given = λ k.
          (let more = given_more c.loop-seat.helpers c.put_back.new.self c.in-Some.seat (into_iter_items c.next.new.self) c.put_back.ensures.count c.put_back.ensures.others k in
          let step = ap (seats_of k) c.in-Some.ensures.steps.0 in
          let given = inv.given k in
          omega (arith, more, step, given));
      of = λ s a b.
          let o = inv.of s a b in
          let all = subst (AllHelp s) c.in-Some.ensures.steps.0 o.1 in
          (c.put_back.ensures.of s o.0 all.0, all.1);
    }
