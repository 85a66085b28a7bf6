use Rattle.group_servers.proofs.Ends.{none_ended}
use Rattle.group_servers.proofs.shutting.close_at.Goals as goal

pub returns-in-None : goal.returns-in-None
returns-in-None g c =
    none_ended g.D.Disk g.N.ServerNaming g.N.LockNaming g.N.ServiceNaming g.N.VersionsNaming g.N.LockNaming.handlers c.args.passes c.args.helpers (rw c.in-None.is at c.requires)

pub close_one-requires : goal.close_one-requires
close_one-requires g c = rw (c.in-Some.is, c.in-Some-passes.is, c.in-Some-helpers.is) at c.requires

pub returns-in-Some-helpers : goal.returns-in-Some-helpers
returns-in-Some-helpers g c = rw c.in-Some-passes.is c.close_one.ensures
