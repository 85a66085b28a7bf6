use Rattle.ship_queue.proofs.Steps.{part_of}
use Rattle.ship_queue.proofs.laws.ship_is_a_part_ship.Goals as goal

pub returns : goal.returns
returns c = part_of
