use Rattle.std.proofs.Common.{◌≡◌, ◌+◌, ◌++◌, length}
use Rattle.std.specs.Vec.Iter.{into_iter_items, into_iter_len}
use Rattle.pass_calls.specs.log_service.Places.{ServiceId}
use Rattle.region_calls.specs.Backs.{AreSeats, device_seats, seats_of}
use Rattle.region_calls.specs.Deals.{AllOf}
use Rattle.region_calls.proofs.giving.give_passes.Given as goal

abbrev pub invariant-giving : goal.invariant-giving
invariant-giving g l = record {
  of : (the : ServiceId) → AreSeats the (length l.fn.passes.items + l.fn.more) l.fn.seats → AllOf the l.fn.passes.items
      → AreSeats the (length (into_iter_items l.pass-iterator) + l.fn.more) l.seats × AllOf the (into_iter_items l.pass-iterator);
  back : l.seats.devices.seats ≡ l.fn.seats.devices.seats ++ device_seats (seats_of l.yielded);
  rest : l.yielded ++ into_iter_items l.pass-iterator ≡ l.fn.passes.items;
  len : into_iter_len l.pass-iterator ≡ length (into_iter_items l.pass-iterator);
}
