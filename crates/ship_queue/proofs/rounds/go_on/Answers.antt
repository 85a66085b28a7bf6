use Rattle.std.proofs.Common.{◌∙◌}
use Rattle.ship_queue.proofs.rounds.go_on.Goals as goal

pub loop-round-preserved : goal.loop-round-preserved
loop-round-preserved g c = record {
  key = c.beside.ensures.key;
  whole = c.beside.ensures.whole;
  consumer = c.beside.ensures.consumer;
  regions = c.beside.ensures.regions ∙ c.loop-round.invariant.regions;
  reads = record { on = λ p first was. c.beside.ensures.reads.on p first (c.loop-round.invariant.reads.on p first was) };
  ships = record { on = λ first was. c.beside.ensures.ships.on first (c.loop-round.invariant.ships.on first was) };
}

pub returns-then-has_ended-clause-reads : goal.returns-then-has_ended-clause-reads
returns-then-has_ended-clause-reads g c = record { on = λ p first was. c.beside.ensures.reads.on p first (c.loop-round.invariant.reads.on p first was) }

pub returns-then-has_ended-clause-ships : goal.returns-then-has_ended-clause-ships
returns-then-has_ended-clause-ships g c = record { on = λ first was. c.beside.ensures.ships.on first (c.loop-round.invariant.ships.on first was) }
