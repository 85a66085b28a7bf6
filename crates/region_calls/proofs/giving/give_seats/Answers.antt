use Rattle.std.proofs.Common.{◌≡◌, ℕ, List, [], ◌∷◌, ◌++◌, length, sym, ap, ◌∙◌, subst, arith, length-append, append_assoc}
use Rattle.std.specs.Vec.Iter.{into_iter_items}
use Rattle.log_berth.specs.Standing.{Standing, AreBack}
use Rattle.pass_calls.specs.log_service.declared.seats.LogSeat.{LogSeat}
use Rattle.region_calls.specs.Deals.{AreSeatsOf}
use Rattle.region_calls.specs.Backs.{AreSeats, device_seats}
use Rattle.region_calls.proofs.BackLaws.{back_more, seats_snoc}
use Rattle.region_calls.proofs.giving.give_seats.Goals as goal

pub put_back-requires : goal.put_back-requires
put_back-requires c =
    let o = c.giving.invariant.of c.requires.of.0 c.requires.of.1 c.requires.of.2 in
    let n = ap length c.in-Some.ensures.steps.0 in
    record { room = (omega (arith, o.0.rooms.0, n), omega (arith, o.0.rooms.1, n)) }

pub giving-preserved : goal.giving-preserved
giving-preserved c =
    let inv = c.giving.invariant in
    let ys : List LogSeat = c.giving.yielded in
    let s : LogSeat = c.in-Some.seat in
    let steps = c.in-Some.ensures.steps.0 in
    let n = ap length steps in
    let behind = c.put_back.ensures.back in
    let rooms = c.put_back.ensures.rooms in
    let old = c.giving.seats in
    let first : List Standing = c.args.seats.now.devices.seats in
    record {
      of = λ the a b.
          let o = inv.of the a b in
          let all = subst (λ (l : List LogSeat). AreSeatsOf the l) steps o.1 in
          let more = ap length behind.0 ∙ length-append old.consumers.seats (s.consumer ∷ []) in
          let too = ap length behind.1 ∙ length-append old.devices.seats (s.device ∷ []) in (
            record {
              consumers = subst (λ (l : List Standing). AreBack the.consumer l) (sym behind.0) (back_more the.consumer old.consumers.seats s.consumer o.0.consumers all.0.consumer all.0.no_move);
              devices = subst (λ (l : List Standing). AreBack the.device l) (sym behind.1) (back_more the.device old.devices.seats s.device o.0.devices all.0.device all.0.no_commit);
              rooms = (omega (arith, o.0.rooms.0, n, more, rooms.0), omega (arith, o.0.rooms.1, n, too, rooms.1));
            },
            all.1,
          );
      back =
          behind.1
          ∙ ap (λ (l : List Standing). l ++ s.device ∷ []) inv.back
          ∙ append_assoc first (device_seats ys) (s.device ∷ [])
          ∙ ap (λ (l : List Standing). first ++ l) (sym (seats_snoc ys s));
      rest = append_assoc ys (s ∷ []) (into_iter_items c.next.new.self) ∙ ap (λ (l : List LogSeat). ys ++ l) (sym steps) ∙ inv.rest;
      len = omega (arith, c.in-Some.ensures.steps.1, n, inv.len);
    }

pub returns-clause-of : goal.returns-clause-of
returns-clause-of c the a b =
    let inv = c.giving.invariant in
    let o = inv.of the a b in
    let none : length (into_iter_items c.giving.seat-iterator) ≡ 0 = omega (arith, inv.len, c.in-None.ensures.steps.0) in
    subst (λ (k : ℕ). AreSeats the k c.giving.seats) none o.0
