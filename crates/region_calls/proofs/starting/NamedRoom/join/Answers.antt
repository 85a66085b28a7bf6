use Rattle.std.proofs.Common.{◌≡◌, ◌+◌, ◌-◌, List, [], ◌∷◌, ◌++◌, length, map, refl, sym, ap, ◌∙◌, subst, arith, length-append}
use Rattle.log_berth.specs.Standing.{Standing, AreBack, fresh}
use Rattle.log_berth.specs.Words.{starts}
use Rattle.pass_calls.specs.log_service.declared.seats.LogSeat.{LogSeat}
use Rattle.pass_calls.proofs.region_lock_laws.NewPart.{len_replicate}
use Rattle.region_calls.specs.declared.pass.Pass.{Pass}
use Rattle.region_calls.specs.Hands.{AreDeals}
use Rattle.region_calls.specs.Passes.{knows}
use Rattle.region_calls.specs.Deals.{AreSeatsOf, AllOf}
use Rattle.region_calls.proofs.Seated.{back_less, back_replicate}
use Rattle.region_calls.proofs.starting.NamedRoom.join.Goals as goal

pub returns-clause-passes : goal.returns-clause-passes
returns-clause-passes g c =
    let place = c.args.parts.service in
    let seats = c.args.parts.seats in
    let room = c.args.self in
    let h = c.args.handlers in
    let H = g.N.LockNaming.handlers in
    let of : h ≡ H = c.requires.handlers.2 in
    let one = c.in-Some.ensures in
    let two = c.in-Some-next.ensures in
    let numbers = c.requires.seats.devices.0 in
    let cs0 = subst (λ (l : List Standing). AreBack place.consumer l) (sym c.requires.seats.consumers) (back_replicate (h + 2) place.consumer (starts 1 [])) in
    let cs1 = back_less place.consumer c.next.new.self.consumers.seats c.in-Some.first.consumer (subst (λ (l : List Standing). AreBack place.consumer l) one.0 cs0) in
    let cs2 = back_less place.consumer c.next-2.new.self.consumers.seats c.in-Some-next.second.consumer (subst (λ (l : List Standing). AreBack place.consumer l) two.0 cs1.0) in
    let ds0 = subst (λ (l : List Standing). AreBack place.device l) (sym c.requires.seats.devices.1) (back_replicate (h + 2) place.device numbers) in
    let ds1 = back_less place.device c.next.new.self.devices.seats c.in-Some.first.device (subst (λ (l : List Standing). AreBack place.device l) one.1 ds0) in
    let ds2 = back_less place.device c.next-2.new.self.devices.seats c.in-Some-next.second.device (subst (λ (l : List Standing). AreBack place.device l) two.1 ds1.0) in
    let n0 = ap length c.requires.seats.devices.1 ∙ len_replicate (h + 2) (fresh place.device numbers) in
    let n1 = ap length one.1 ∙ length-append c.next.new.self.devices.seats (c.in-Some.first.device ∷ []) in
    let n2 = ap length two.1 ∙ length-append c.next-2.new.self.devices.seats (c.in-Some-next.second.device ∷ []) in
    let left : h ≡ H - 0 = omega (arith, of) in (
      refl,
      ap (λ (l : List (Pass g.row.N.Denot g.N.LockNaming)). map knows l) c.requires.back.0,
      record {
        count = c.requires.regions.3;
        deals = subst (λ m. AreDeals 1 m room.hands.items) left c.requires.regions.2;
        all = of;
        rooms = (c.requires.rooms.0, omega (arith, c.requires.rooms.1, of));
        consumers = cs2.0;
        devices = (ds2.0, omega (arith, n0, n1, n2, of));
        room = (omega (arith, c.requires.seats.room.0, one.2, two.2, of), omega (arith, c.requires.seats.room.1, one.3, two.3, of));
        back = subst (λ (l : List (Pass g.row.N.Denot g.N.LockNaming)). AllOf place l) (sym c.requires.back.0) tt;
        within = (omega (arith, room.back.ok.0, ap length c.requires.back.0), omega (arith, c.requires.back.1, of));
      },
    )

pub returns-clause-helpers : goal.returns-clause-helpers
returns-clause-helpers g c =
    let place = c.args.parts.service in
    let h = c.args.handlers in
    let one = c.in-Some.ensures in
    let two = c.in-Some-next.ensures in
    let first : LogSeat = c.in-Some.first in
    let second : LogSeat = c.in-Some-next.second in
    let numbers = c.requires.seats.devices.0 in
    let cs0 = subst (λ (l : List Standing). AreBack place.consumer l) (sym c.requires.seats.consumers) (back_replicate (h + 2) place.consumer (starts 1 [])) in
    let cs1 = back_less place.consumer c.next.new.self.consumers.seats first.consumer (subst (λ (l : List Standing). AreBack place.consumer l) one.0 cs0) in
    let cs2 = back_less place.consumer c.next-2.new.self.consumers.seats second.consumer (subst (λ (l : List Standing). AreBack place.consumer l) two.0 cs1.0) in
    let ds0 = subst (λ (l : List Standing). AreBack place.device l) (sym c.requires.seats.devices.1) (back_replicate (h + 2) place.device numbers) in
    let ds1 = back_less place.device c.next.new.self.devices.seats first.device (subst (λ (l : List Standing). AreBack place.device l) one.1 ds0) in
    let ds2 = back_less place.device c.next-2.new.self.devices.seats second.device (subst (λ (l : List Standing). AreBack place.device l) two.1 ds1.0) in
    let all : c.push_reserved-2.new.self.items ≡ first ∷ second ∷ [] =
    c.push_reserved-2.ensures.items ∙ ap (λ (l : List LogSeat). l ++ second ∷ []) (c.push_reserved.ensures.items ∙ ap (λ (l : List LogSeat). l ++ first ∷ []) c.requires.helpers.0) in (
      ap length all,
      subst (λ (l : List LogSeat). AreSeatsOf place l) (sym all)
          (record { consumer = cs1.1.0; device = ds1.1.0; no_move = cs1.1.1; no_commit = ds1.1.1 }, (record { consumer = cs2.1.0; device = ds2.1.0; no_move = cs2.1.1; no_commit = ds2.1.1 }, tt)),
    )

pub invariant_of-result : goal.invariant_of-result
invariant_of-result g c =
    let locked = c.lock_all-regions.ensures in
    (c.requires.served, record { locks = locked.locks ∙ c.requires.regions.1; out = locked.passes.0; all = locked.passes.1 ∙ c.requires.passes.1 })

pub unreachable-requires : goal.unreachable-requires
unreachable-requires g c =
    let numbers = c.requires.seats.devices.0 in
    let n0 = ap length c.requires.seats.devices.1 ∙ len_replicate (c.args.handlers + 2) (fresh c.args.parts.service.device numbers) in
    omega (arith, n0, ap length c.in_default.ensures.0)

pub unreachable-requires-in_default-next : goal.unreachable-requires-in_default-next
unreachable-requires-in_default-next g c =
    let numbers = c.requires.seats.devices.0 in
    let n0 = ap length c.requires.seats.devices.1 ∙ len_replicate (c.args.handlers + 2) (fresh c.args.parts.service.device numbers) in
    let n1 = ap length c.in-Some.ensures.1 ∙ length-append c.next.new.self.devices.seats (c.in-Some.first.device ∷ []) in
    omega (arith, n0, n1, c.requires.handlers.0, ap length c.in_default-next.ensures.0)

pub lock_all-regions-requires-clause-passes : goal.lock_all-regions-requires-clause-passes
lock_all-regions-requires-clause-passes g c = (c.requires.passes.0, c.requires.passes.1 ∙ sym c.requires.regions.1)
