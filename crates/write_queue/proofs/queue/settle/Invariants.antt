use Rattle.std.proofs.Common.{◌≡◌, ◌+◌, ◌++◌, length, replicate, true}
use Rattle.std.specs.VecDeque.{deque_capacity}
use Rattle.write_queue.proofs.queue.settle.Given as goal

abbrev pub invariant-loop-marks : goal.invariant-loop-marks
invariant-loop-marks l =
    (replicate l.taken true ++ l.marks.items ≡ l.initial.marks.items)
    × (l.taken + length l.marks.items ≡ length l.initial.marks.items)
    × (deque_capacity l.marks ≡ deque_capacity l.initial.marks)

abbrev pub decreases-loop-marks : goal.decreases-loop-marks
decreases-loop-marks l = length l.marks.items
