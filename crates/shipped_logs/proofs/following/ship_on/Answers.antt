use Rattle.log_tail.specs.Position.{position_of}
use Rattle.shipped_logs.specs.Following.{last_of}
use Rattle.shipped_logs.proofs.Joined.{going_now, chronicle_now, followed}
use Rattle.shipped_logs.proofs.following.ship_on.Goals as goal

pub returns-clause-follows : goal.returns-clause-follows
returns-clause-follows g c told first start later is other =
    let old = (g.D.Disk.view c.args.disk.now).files in
    let m = last_of start later in
    let ship = (rw c.at-tail.ensures at c.ship_all.ensures.reached) told (going_now g.P.Peer.has first start later old c.args.peer.now (position_of c.args.at) is) m.chronicle m.messages
    (chronicle_now g.P.Peer.has first start later old c.args.peer.now (position_of c.args.at) is) is.told other in (
      ship.0,
      ship.1,
      followed g.P.Peer.has first start later old c.args.peer.now (position_of c.args.at) is c.shipped_begins_the_chronicle.ensures (g.D.Disk.view c.ship_all.new.disk).files (c.ship_all.ensures.looks told).1.files ship.0 ship.2,
    )

pub returns-clause-failed : goal.returns-clause-failed
returns-clause-failed g c told first start later is failed ns has =
    let old = (g.D.Disk.view c.args.disk.now).files in
    let m = last_of start later in
    followed g.P.Peer.has first start later old c.args.peer.now (position_of c.args.at) is c.shipped_begins_the_chronicle.ensures (g.D.Disk.view c.ship_all.new.disk).files (c.ship_all.ensures.looks told).1.files ns
    ((rw c.at-tail.ensures at c.ship_all.ensures.reached_so_far) told (going_now g.P.Peer.has first start later old c.args.peer.now (position_of c.args.at) is) m.chronicle m.messages ns
    (chronicle_now g.P.Peer.has first start later old c.args.peer.now (position_of c.args.at) is) is.told has failed)

pub returns-clause-ships : goal.returns-clause-ships
returns-clause-ships g c told ms has other =
    let said = (rw c.at-tail.ensures at c.ship_all.ensures.ships) told ms has other in (said.0, said.1, said.2, said.4)
