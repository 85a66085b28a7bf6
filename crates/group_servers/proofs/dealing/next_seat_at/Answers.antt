use Rattle.group_servers.proofs.Handing.{seats_next}
use Rattle.group_servers.proofs.dealing.next_seat_at.Goals as goal

pub returns-in-Some-clause-some : goal.returns-in-Some-clause-some
returns-in-Some-clause-some c = rw c.in-Some.is c.next.ensures.some

pub returns-in-Some-clause-none : goal.returns-in-Some-clause-none
returns-in-Some-clause-none c = rw c.in-Some.is c.next.ensures.none

pub returns-in-Some-clause-of : goal.returns-in-Some-clause-of
returns-in-Some-clause-of c = rw c.in-Some.is (seats_next c.in-Some.helpers c.next.new.self c.next.result c.next.ensures.of)
