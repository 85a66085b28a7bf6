use Rattle.group_servers.proofs.recovering.recover_at.Goals as goal

pub returns-in-Ok-clause-goes_on : goal.returns-in-Ok-clause-goes_on
returns-in-Ok-clause-goes_on g c = rw c.in-Some.is c.recover_one.ensures.goes_on

pub returns-in-Ok-clause-found : goal.returns-in-Ok-clause-found
returns-in-Ok-clause-found g c = rw c.in-Some.is c.in-Ok.ensures.found

pub returns-in-Err-clause-goes_on : goal.returns-in-Err-clause-goes_on
returns-in-Err-clause-goes_on g c = rw c.in-Some.is c.recover_one.ensures.goes_on

pub returns-in-Err-clause-tells : goal.returns-in-Err-clause-tells
returns-in-Err-clause-tells g c = rw c.in-Some.is c.in-Err.ensures.tells
