use Rattle.group_servers.proofs.Handing.{seats_back}
use Rattle.group_servers.proofs.dealing.put_seat_back_at.Goals as goal

pub put_back-requires : goal.put_back-requires
put_back-requires c = rw c.in-Some.is at c.requires.room

pub returns-clause-count : goal.returns-clause-count
returns-clause-count c = rw c.in-Some.is c.put_back.ensures.count

pub returns-clause-of : goal.returns-clause-of
returns-clause-of c = rw c.in-Some.is (seats_back c.in-Some.helpers c.put_back.new.self c.args.seat c.put_back.ensures.of)
