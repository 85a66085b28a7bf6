use Rattle.std.proofs.Common.{◌≡◌, ℕ, length, subst, arith}
use Rattle.region_calls.specs.Deals.{AreRooms}
use Rattle.region_calls.proofs.starting.make_room.Goals as goal

pub returns-clause-regions : goal.returns-clause-regions
returns-clause-regions g c =
    let made = c.in_ok-unlocked.ensures in
    (made.unlocked.0, made.unlocked.1, made.hands.0, made.hands.1)

pub returns-clause-rooms : goal.returns-clause-rooms
returns-clause-rooms g c =
    let made = c.in_ok-rooms.ensures in
    let count : c.len-regions.result ≡ length c.args.seeds.items = omega (arith, c.len-regions.ensures, c.args.seeds.ok.0) in
    (subst (λ (n : ℕ). AreRooms n c.in_ok-rooms.rooms.items) count made.0, made.1)
