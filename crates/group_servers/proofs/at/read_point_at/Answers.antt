use Rattle.group_servers.proofs.at.read_point_at.Goals as goal

pub returns-clause-looks : goal.returns-clause-looks
returns-clause-looks g c = rw c.in-Some-Some.is-1 c.read_point_of.ensures.looks
