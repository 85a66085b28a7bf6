use Rattle.ship_queue.proofs.Steps.{step_of}
use Rattle.ship_queue.proofs.laws.part_ship_is_a_step.Goals as goal

pub returns : goal.returns
returns c = step_of
