use Rattle.std.proofs.Common.{◌∙◌}
use Rattle.ship_queue.proofs.shipping_half.ShippingHalf.ship_on.Goals as goal

pub loop-step-preserved : goal.loop-step-preserved
loop-step-preserved g c = record {
  ring = c.ship_next-has_shipped.ensures.ring;
  regions = c.ship_next-has_shipped.ensures.regions ∙ c.loop-step.invariant.regions;
  ships = record { on = λ first was. c.ship_next-has_shipped.ensures.ships.on first (c.loop-step.invariant.ships.on first was) };
}

pub returns-then-not-goes_on-clause-ships : goal.returns-then-not-goes_on-clause-ships
returns-then-not-goes_on-clause-ships g c = record { on = λ first was. c.ship_next-has_shipped.ensures.ships.on first (c.loop-step.invariant.ships.on first was) }
