use Rattle.group_servers.proofs.at.flush_at.Goals as goal

pub flush-requires-clause-call : goal.flush-requires-clause-call
flush-requires-clause-call g c = rw c.in-Some-Some.is-1 at c.requires.call

pub flush-requires-clause-listed : goal.flush-requires-clause-listed
flush-requires-clause-listed g c = rw c.in-Some-Some.is-1 at c.requires.listed

pub returns-clause-flushes : goal.returns-clause-flushes
returns-clause-flushes g c = rw c.in-Some-Some.is-1 c.flush.ensures.flushes
