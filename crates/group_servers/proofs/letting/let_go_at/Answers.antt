use Rattle.group_servers.proofs.letting.let_go_at.Goals as goal

pub let_go-requires : goal.let_go-requires
let_go-requires g c = rw c.in-Some.is at c.requires

pub returns-in-Some : goal.returns-in-Some
returns-in-Some g c = rw c.in-Some.is c.let_go.ensures
