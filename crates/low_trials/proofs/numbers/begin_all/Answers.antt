use Rattle.std.proofs.Common.{◌≡◌, ◌+◌, ◌≤◌, [], ◌∷◌, false, arith, ap, length-append}
use Rattle.write_queue.specs.Numbers.{Queue, last_begun}
use Rattle.write_queue.proofs.Flights.{out_begun}
use Rattle.low_trials.proofs.numbers.begin_all.Goals as goal

pub loop-begun-preserved : goal.loop-begun-preserved
loop-begun-preserved c =
    let i = c.loop-begun.invariant in
    let point : last_begun c.loop-begun.queue.numbers ≡ c.loop-begun._begun = i.1 in
    let room : 200 ≤ c.loop-begun.queue.room + c.loop-begun._begun = i.2 in
    let same = ap (λ (q : Queue). q.room) c.begin.ensures.queue in (
      rw (c.begin.ensures.queue, c.push_back_reserved.ensures.items) (out_begun _ _ _ c.begin.ensures.number i.0),
      rw c.begin.ensures.queue (omega (arith, length-append c.loop-begun.queue.numbers.done (false ∷ []), point)),
      omega (arith, room, same, c.loop-begun-test.true),
      omega (arith, i.3, c.push_back_reserved.ensures.capacity),
      omega (arith, i.4, c.push_back_reserved.ensures.len),
    )
