use Rattle.group_servers.proofs.at.scan_at.Goals as goal

pub returns-clause-scans : goal.returns-clause-scans
returns-clause-scans g c = rw c.in-Some-Some.is-1 c.scan.ensures.scans
