use Rattle.write_queue.proofs.Flights.{out_completed}
use Rattle.low_trials.proofs.numbers.complete_all.Goals as goal

pub complete-requires : goal.complete-requires
complete-requires c = (c.in-Some.ensures.out c.loop-entry.queue.numbers c.loop-entry.invariant).0

pub loop-entry-preserved : goal.loop-entry-preserved
loop-entry-preserved c = rw c.complete.ensures.queue (out_completed c.loop-entry.queue.numbers c.in-Some.entry c.pick.new.out.items (c.in-Some.ensures.out c.loop-entry.queue.numbers c.loop-entry.invariant))
