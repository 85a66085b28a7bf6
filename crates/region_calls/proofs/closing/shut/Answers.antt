use Rattle.std.proofs.Common.{◌≡◌, ℕ, List, length, sym, ap, ◌∙◌, subst, arith}
use Rattle.log_berth.specs.Standing.{Standing, AllSaw}
use Rattle.pass_calls.specs.log_service.declared.seats.LogSeat.{LogSeat}
use Rattle.region_calls.specs.declared.pass.Pass.{Pass}
use Rattle.region_calls.specs.Deals.{AreSeatsOf}
use Rattle.region_calls.specs.Backs.{AreSeats, device_seats, seats_of}
use Rattle.region_calls.proofs.BackLaws.{saw_split, seats_given}
use Rattle.region_calls.proofs.closing.shut.Goals as goal

pub give_seats-requires : goal.give_seats-requires
give_seats-requires g c =
    let the = c.args.service in
    let two : 2 ≡ length c.helpers.inside.seats.items = omega (arith, c.requires.helpers.1, ap length c.helpers.view_is) in
    record {
      of = (
        the,
        subst (λ (k : ℕ). AreSeats the k c.give_passes.new.seats) two (c.give_passes.ensures.of the c.requires.seats.0 c.requires.back),
        subst (λ (l : List LogSeat). AreSeatsOf the l) (sym c.helpers.view_is) c.requires.helpers.0,
      );
    }

pub close-requires-clause-consumers : goal.close-requires-clause-consumers
close-requires-clause-consumers g c =
    let the = c.args.service in
    let two : 2 ≡ length c.helpers.inside.seats.items = omega (arith, c.requires.helpers.1, ap length c.helpers.view_is) in
    (c.give_seats.ensures.of the (subst (λ (k : ℕ). AreSeats the k c.give_passes.new.seats) two (c.give_passes.ensures.of the c.requires.seats.0 c.requires.back)) (subst (λ (l : List LogSeat). AreSeatsOf the l) (sym c.helpers.view_is) c.requires.helpers.0)).consumers

pub close-requires-clause-devices : goal.close-requires-clause-devices
close-requires-clause-devices g c =
    let the = c.args.service in
    let two : 2 ≡ length c.helpers.inside.seats.items = omega (arith, c.requires.helpers.1, ap length c.helpers.view_is) in
    (c.give_seats.ensures.of the (subst (λ (k : ℕ). AreSeats the k c.give_passes.new.seats) two (c.give_passes.ensures.of the c.requires.seats.0 c.requires.back)) (subst (λ (l : List LogSeat). AreSeatsOf the l) (sym c.helpers.view_is) c.requires.helpers.0)).devices

pub returns-clause-saw : goal.returns-clause-saw
returns-clause-saw g c =
    let words = c.close.result.synced in
    let broken = c.close.result.broken in
    let all = subst (λ (l : List Standing). AllSaw l words broken) c.give_seats.ensures.back c.close.ensures.saw in
    let first = (saw_split c.give_passes.new.seats.devices.seats (device_seats c.helpers.inside.seats.items) words broken all).0 in
    (saw_split c.args.seats.devices.seats (device_seats (seats_of c.args.back.items)) words broken (subst (λ (l : List Standing). AllSaw l words broken) c.give_passes.ensures.back first)).1

pub close-requires-clause-all : goal.close-requires-clause-all
close-requires-clause-all g c =
    let two = ap length c.helpers.view_is ∙ c.requires.helpers.1 in
    seats_given (λ (p : Pass g.row.N.Denot g.N.LockNaming). p.seat) c.args.seats.devices.seats c.give_passes.new.seats.devices.seats c.give_seats.new.seats.devices.seats c.args.back.items c.helpers.inside.seats.items c.args.service.seats
    c.give_passes.ensures.back c.give_seats.ensures.back two c.requires.seats.1
