use Rattle.group_servers.proofs.at.put_at.Goals as goal

pub put_with-requires-clause-call : goal.put_with-requires-clause-call
put_with-requires-clause-call g c = rw c.in-Some-Some.is-1 at c.requires.call

pub returns-clause-puts : goal.returns-clause-puts
returns-clause-puts g c = rw c.in-Some-Some.is-1 c.put_with.ensures.puts

pub returns-clause-exact : goal.returns-clause-exact
returns-clause-exact g c = rw c.in-Some-Some.is-1 c.put_with.ensures.exact
