use Rattle.std.proofs.Common.{List, ◌∷◌, [], length, sym, ap, ◌∙◌, subst, arith, length-append}
use Rattle.std.specs.Global.{Vec}
use Rattle.pass_calls.specs.region_lock.declared.pass.RegionPass.{RegionPass}
use Rattle.region_calls.specs.Deals.{AreRooms}
use Rattle.region_calls.proofs.Seated.{rooms_more}
use Rattle.region_calls.proofs.room.make_rooms.Goals as goal

pub making-preserved : goal.making-preserved
making-preserved g c =
    let inv = c.making.invariant in
    let vs = c.making.rooms.items in
    let v = c.in_ok-room.room in
    let pushed = c.push_reserved.ensures.items in
    record {
      rooms = subst (λ (l : List (Vec (RegionPass g.row.N.Denot g.N.LockNaming))). AreRooms c.args.regions l) (sym pushed) (rooms_more c.args.regions vs v inv.rooms c.in_ok-room.ensures.items c.in_ok-room.ensures.capacity);
      count = ap length pushed ∙ omega (arith, length-append vs (v ∷ []), inv.count);
      room = omega (arith, inv.room, c.push_reserved.ensures.capacity);
    }
