use Rattle.ship_queue.proofs.reading_half.ReadingHalf.read_on.Goals as goal

pub loop-step-preserved : goal.loop-step-preserved
loop-step-preserved g c = record {
  key = c.step-has_moved.ensures.key;
  whole = c.step-has_moved.ensures.whole;
  reads = record { on = λ p first was. c.step-has_moved.ensures.reads.on p first (c.loop-step.invariant.reads.on p first was) };
}

pub returns-then-not-goes_on-clause-reads : goal.returns-then-not-goes_on-clause-reads
returns-then-not-goes_on-clause-reads g c = record { on = λ p first was. c.step-has_moved.ensures.reads.on p first (c.loop-step.invariant.reads.on p first was) }
