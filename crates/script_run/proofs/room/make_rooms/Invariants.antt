use Rattle.std.proofs.Common.{◌≡◌, map}
use Rattle.script_run.specs.Rooms.{AreRooms, calls_in}
use Rattle.script_run.proofs.room.make_rooms.Given as goal

abbrev pub invariant-loop-list : goal.invariant-loop-list
invariant-loop-list l = (map calls_in l.rooms.items ≡ l.yielded) × AreRooms l.rooms.items
