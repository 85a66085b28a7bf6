use Rattle.std.specs.VecDeque.{deque_len}
use Rattle.write_queue.specs.Flights.{AreOut}
use Rattle.low_trials.proofs.numbers.complete_all.Given as goal

abbrev pub invariant-loop-entry : goal.invariant-loop-entry
invariant-loop-entry l = AreOut l.queue.numbers l.out.items

abbrev pub decreases-loop-entry : goal.decreases-loop-entry
decreases-loop-entry l = deque_len l.out
