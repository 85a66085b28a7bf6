use Rattle.group_servers.proofs.at.help_at.Goals as goal

pub help_with-requires : goal.help_with-requires
help_with-requires g c = rw c.in-Some.is at c.requires

pub returns-clause-seat : goal.returns-clause-seat
returns-clause-seat g c = rw c.in-Some.is c.help_with.ensures.seat
