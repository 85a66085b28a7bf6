use Rattle.shipped_logs.proofs.Joined.{law}
use Rattle.shipped_logs.proofs.laws.shipped_begins_the_chronicle.Goals as goal

pub returns : goal.returns
returns c = law c.later_entries_are_behind.ensures c.reached_stays.ensures c.part_ship_is_a_step.ensures c.shipping_goes_on.ensures
