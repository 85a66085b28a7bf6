use Rattle.std.proofs.Common.{Some, ap, sym}
use Rattle.group_servers.proofs.starting.start_at.Goals as goal

pub named-requires-clause-name : goal.named-requires-clause-name
named-requires-clause-name g c =
    let named = rw c.in-Some.is at c.requires in
    named.name

pub named-requires-clause-store : goal.named-requires-clause-store
named-requires-clause-store g c =
    let named = rw c.in-Some.is at c.requires in
    named.store

pub returns-in-Ok-clause-new : goal.returns-in-Ok-clause-new
returns-in-Ok-clause-new g c =
    let passes = c.in-Ok.ensures.passes in
    record { none = (passes.0, passes.1); passes = passes.2; seats_are = c.in-Ok.ensures.helpers }

pub returns-in-Ok-clause-sites : goal.returns-in-Ok-clause-sites
returns-in-Ok-clause-sites g c = rw c.in-Some.is c.in-Ok.ensures.server.0

pub returns-in-Err-clause-refused : goal.returns-in-Err-clause-refused
returns-in-Err-clause-refused g c = rw c.in-Some.is (ap Some (sym c.in-Err.ensures.refused.1))
