use Rattle.std.proofs.Common.{◌≡◌, ◌+◌, ℕ}
use Rattle.std.specs.Vec.Iter.{into_iter_items}
use Rattle.groups_run.specs.Helpers.{held, AreHelpersOf}
use Rattle.group_calls.specs.Servers.{Servers}
use Rattle.groups_run.specs.Seating.{AllHelp, seats_of}
use Rattle.groups_run.proofs.seating.give_seats.Given as goal

abbrev pub invariant-loop-seat : goal.invariant-loop-seat
invariant-loop-seat l = record {
  given : (k : ℕ) → held l.helpers k + seats_of k (into_iter_items l.seat-iterator) ≡ held l.fn.helpers k + seats_of k l.fn.seats.items;
  of : (s : Servers) → AreHelpersOf s l.fn.helpers → AllHelp s l.fn.seats.items → AreHelpersOf s l.helpers × AllHelp s (into_iter_items l.seat-iterator);
}
