use Rattle.std.proofs.Common.{◌≡◌, ◌+◌, ◌≤◌}
use Rattle.std.specs.VecDeque.{deque_capacity, deque_len}
use Rattle.write_queue.specs.Numbers.{last_begun}
use Rattle.write_queue.specs.Flights.{AreOut}
use Rattle.low_trials.proofs.numbers.begin_all.Given as goal

abbrev pub invariant-loop-begun : goal.invariant-loop-begun
invariant-loop-begun l =
    AreOut l.queue.numbers l.out.items
    × (last_begun l.queue.numbers ≡ l._begun)
    × (200 ≤ l.queue.room + l._begun)
    × (200 ≤ deque_capacity l.out)
    × (deque_len l.out ≡ l._begun)
