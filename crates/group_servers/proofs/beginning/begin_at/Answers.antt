use Rattle.group_servers.specs.Beginning.{IsOpenedFrom}
use Rattle.group_servers.specs.Recovering.{IsRecovered}
use Rattle.group_servers.proofs.Begins.{both_none}
use Rattle.group_servers.proofs.beginning.begin_at.Goals as goal

pub returns-in-None-clause-opened : goal.returns-in-None-clause-opened
returns-in-None-clause-opened g c =
    both_none (IsRecovered g.D.Disk) (IsOpenedFrom g.D.Disk c.args.regions c.args.handlers) c.args.store (rw c.in-None.is at c.requires.recovered)

pub unreachable-requires : goal.unreachable-requires
unreachable-requires g c = rw (c.in-None-store.is, c.in-Some.is) at c.requires.recovered

pub begin_one-requires-clause-recovered : goal.begin_one-requires-clause-recovered
begin_one-requires-clause-recovered g c = rw (c.in-Some-store.is, c.in-Some.is) at c.requires.recovered

pub returns-in-Ok-clause-opened : goal.returns-in-Ok-clause-opened
returns-in-Ok-clause-opened g c = rw c.in-Some-store.is c.in-Ok.ensures.opened

pub returns-in-Err-clause-refused : goal.returns-in-Err-clause-refused
returns-in-Err-clause-refused g c = rw c.in-Some-store.is c.in-Err.ensures.refused
