use Rattle.std.proofs.Common.{◌≡◌, ◌+◌, ◌-◌, List, [], ◌∷◌, length, ap, ◌∙◌, subst, arith, length-append, ◌≤◌, Option, sym}
use Rattle.std.specs.Global.{Vec}
use Rattle.log_berth.specs.Standing.{Standing, AreBack}
use Rattle.pass_calls.specs.region_lock.declared.pass.RegionPass.{RegionPass}
use Rattle.region_calls.specs.Hands.{AreDeals}
use Rattle.region_calls.specs.Deals.{AreRooms}
use Rattle.region_calls.proofs.Seated.{rooms_less, back_less, new_hand}
use Rattle.std.specs.Prelude.{IfSome}
use Rattle.pass_calls.specs.log_service.declared.seats.LogSeats.{LogSeats}
use Rattle.region_calls.specs.declared.pass.Pass.{Pass}
use Rattle.region_calls.specs.Passes.{IsPassOf}
use Rattle.region_calls.proofs.passes.Passes.next.Goals as goal

pub deal-regions-requires-clause-room : goal.deal-regions-requires-clause-room
deal-regions-requires-clause-room g c =
    let of = c.requires.of.1 in
    let n = c.requires.of.0.regions in
    let r = rooms_less n c.pop.new.self.items c.in-Some.room (subst (λ (l : List (Vec (RegionPass g.row.N.Denot g.N.LockNaming))). AreRooms n l) c.in-Some.ensures.items of.rooms.0) in
    (r.1.0, omega (arith, r.1.1, of.count))

pub returns-clause-of : goal.returns-clause-of
returns-clause-of g c place of =
    let n = place.regions in
    let old = c.args.self.now in
    let H = g.N.LockNaming.handlers in
    let seat = c.in_ok-seat.seat in
    let seats = c.in_ok-seat.ensures in
    let r = rooms_less n c.pop.new.self.items c.in-Some.room (subst (λ (l : List (Vec (RegionPass g.row.N.Denot g.N.LockNaming))). AreRooms n l) c.in-Some.ensures.items of.rooms.0) in
    let left : old.handlers - old.out - 1 ≡ H - (old.out + 1) = omega (arith, of.all) in
    let cs = back_less place.consumer c.next.new.self.consumers.seats seat.consumer (subst (λ (l : List Standing). AreBack place.consumer l) seats.0 of.consumers) in
    let ds = back_less place.device c.next.new.self.devices.seats seat.device (subst (λ (l : List Standing). AreBack place.device l) seats.1 of.devices.0) in
    let rooms = ap length c.in-Some.ensures.items ∙ length-append c.pop.new.self.items (c.in-Some.room ∷ []) in
    let devices = ap length seats.1 ∙ length-append c.next.new.self.devices.seats (seat.device ∷ []) in (
      record {
        count = c.deal-regions.ensures.count ∙ of.count;
        deals = subst (λ m. AreDeals (old.out + 1 + 1) m c.deal-regions.new.regions.items) left c.deal-regions.ensures.deals;
        all = of.all;
        rooms = (r.0, omega (arith, rooms, of.rooms.1));
        consumers = cs.0;
        devices = (ds.0, omega (arith, devices, of.devices.1));
        room = (omega (arith, seats.2, of.room.0), omega (arith, seats.3, of.room.1));
        back = of.back;
        within = (omega (arith, of.within.0), of.within.1);
      },
      record {
        seat = record { consumer = cs.1.0; device = ds.1.0; no_move = cs.1.1; no_commit = ds.1.1 };
        count = c.deal-regions.ensures.hands.0 ∙ of.count;
        hands = λ k p at. new_hand (k + 1) (old.out + 1) p (c.deal-regions.ensures.hands.1 k p at);
      },
    )

pub returns-in_err-seat-clause-of : goal.returns-in_err-seat-clause-of
returns-in_err-seat-clause-of g c place of =
    let same = sym c.in_err-seat.ensures.1 in (
      record {
        count = of.count;
        deals = of.deals;
        all = of.all;
        rooms = of.rooms;
        consumers = subst (λ (s : LogSeats). AreBack place.consumer s.consumers.seats) same of.consumers;
        devices = subst (λ (s : LogSeats). AreBack place.device s.devices.seats × (length s.devices.seats + c.args.self.now.out ≡ g.N.LockNaming.handlers)) same of.devices;
        room = subst (λ (s : LogSeats). (g.N.LockNaming.handlers + 2 ≤ s.consumers.room) × (g.N.LockNaming.handlers + 2 ≤ s.devices.room)) same of.room;
        back = of.back;
        within = of.within;
      },
      subst (λ (r : Option (Pass g.row.N.Denot g.N.LockNaming)). IfSome r (λ pass. IsPassOf place pass)) (sym c.from_residual.ensures) tt,
    )
