use Rattle.std.proofs.Common.{◌≡◌, ◌++◌, length}
use Rattle.std.specs.Vec.Iter.{into_iter_items, into_iter_len}
use Rattle.pass_calls.specs.log_service.Places.{ServiceId}
use Rattle.region_calls.specs.Backs.{AreSeats, device_seats}
use Rattle.region_calls.specs.Deals.{AreSeatsOf}
use Rattle.region_calls.proofs.giving.give_seats.Given as goal

abbrev pub invariant-giving : goal.invariant-giving
invariant-giving l = record {
  of : (the : ServiceId) → AreSeats the (length l.fn.helpers.items) l.fn.seats → AreSeatsOf the l.fn.helpers.items
      → AreSeats the (length (into_iter_items l.seat-iterator)) l.seats × AreSeatsOf the (into_iter_items l.seat-iterator);
  back : l.seats.devices.seats ≡ l.fn.seats.devices.seats ++ device_seats l.yielded;
  rest : l.yielded ++ into_iter_items l.seat-iterator ≡ l.fn.helpers.items;
  len : into_iter_len l.seat-iterator ≡ length (into_iter_items l.seat-iterator);
}
