use Rattle.group_calls.proofs.There.{servers_there}
use Rattle.group_calls.proofs.groups.Groups.of.Goals as goal

pub invariant_of-result : goal.invariant_of-result
invariant_of-result g c = servers_there _ _ _ _ c.requires.count
