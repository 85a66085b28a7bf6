use Rattle.std.proofs.Common.{◌≡◌, ◌++◌, ◌∷◌, [], length, vec_len, sym, subst, ap, arith, ◌∙◌, refl}
use Rattle.groups_run.specs.Helpers.{held}
use Rattle.groups_run.specs.Seating.{AllHelp, seats_of}
use Rattle.groups_run.proofs.Seats.{help_push, taken_more}
use Rattle.groups_run.proofs.seating.take_seats.Goals as goal

pub loop-init : goal.loop-init
loop-init c = record {
  taken = λ k. (let none : seats_of k c.args.seats.now.items ≡ 0 = ap (seats_of k) c.requires.none.0 in omega (arith, none));
  few = (let none : vec_len c.args.seats.now ≡ 0 = c.args.seats.now.ok.0 ∙ ap length c.requires.none.0 in omega (arith, none));
  room = refl;
  of = λ s a. (a, subst (AllHelp s) (sym c.requires.none.0) tt);
}

pub push_reserved-requires : goal.push_reserved-requires
push_reserved-requires c = omega (arith, c.loop.invariant.few, c.loop.invariant.room, c.requires.none.1, c.loop-test.true)

pub loop-preserved : goal.loop-preserved
loop-preserved c =
    let inv = c.loop.invariant in
    let h = c.in-Some.seat in
    let some = c.in-Some.ensures.some in
    let new = c.next.new.self in
    let items = c.loop.seats.items in
    record {
      taken = λ k.
          (let more = taken_more c.loop.helpers new items h some.0 some.1 k in
          let step = ap (seats_of k) c.push_reserved.ensures.items in
          let was = inv.taken k in
          omega (arith, more, step, was));
      few = omega (arith, inv.few, c.push_reserved.ensures.len);
      room = c.push_reserved.ensures.capacity ∙ inv.room;
      of = λ s a.
          let o = inv.of s a in
          let n = c.in-Some.ensures.of s o.0 in
          (n.0, subst (AllHelp s) (sym c.push_reserved.ensures.items) (help_push s items h o.1 n.1));
    }
