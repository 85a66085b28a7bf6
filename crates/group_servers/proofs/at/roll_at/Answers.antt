use Rattle.group_servers.proofs.at.roll_at.Goals as goal

pub returns-clause-rolls : goal.returns-clause-rolls
returns-clause-rolls g c = rw c.in-Some-Some.is-1 c.roll.ensures.rolls
