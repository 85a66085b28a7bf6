use Rattle.std.proofs.Common.{◌≡◌, ◌≤◌, length, vec_capacity}
use Rattle.region_calls.specs.Deals.{AreRooms}
use Rattle.region_calls.proofs.room.make_rooms.Given as goal

abbrev pub invariant-making : goal.invariant-making
invariant-making g l = record {
  rooms : AreRooms l.regions l.rooms.items;
  count : length l.rooms.items ≡ l._handler;
  room : l.handlers ≤ vec_capacity l.rooms;
}
