use Rattle.std.proofs.Common.{◌≡◌, ◌+◌, ◌≤◌, ℕ, length, vec_len, vec_capacity}
use Rattle.groups_run.specs.Helpers.{held, AreHelpersOf}
use Rattle.group_calls.specs.Servers.{Servers}
use Rattle.groups_run.specs.Seating.{AllHelp, seats_of}
use Rattle.groups_run.proofs.seating.take_seats.Given as goal

abbrev pub invariant-loop : goal.invariant-loop
invariant-loop l = record {
  taken : (k : ℕ) → held l.helpers k + seats_of k l.seats.items ≡ held l.fn.helpers k;
  few : vec_len l.seats ≤ l.counter;
  room : vec_capacity l.seats ≡ vec_capacity l.fn.seats;
  of : (s : Servers) → AreHelpersOf s l.fn.helpers → AreHelpersOf s l.helpers × AllHelp s l.seats.items;
}
