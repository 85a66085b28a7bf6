use Rattle.std.proofs.Common.{IsTrue, refl}
use Rattle.ship_queue.proofs.GoneLaws.{gone_failed, gone_nowhere, gone_refused, gone_whole, nothing_read, nothing_shipped}
use Rattle.ship_queue.proofs.rounds.ship_read.Goals as goal

pub returns-in_default : goal.returns-in_default
returns-in_default g c =
    let d = g.D.Disk in
    let p = g.P.Peer in
    gone_nowhere (IsTrue d.told) d.view d.faults p.has p.torn p.stays p.faults c.args.tail.now c.args.disk.now c.args.peer.now (g.met.P.Peer.stays_itself c.args.peer.now)

pub returns-then-has_failed : goal.returns-then-has_failed
returns-then-has_failed g c =
    let d = g.D.Disk in
    let p = g.P.Peer in
    let peer = c.args.peer.now in
    let half = c.go_on.new.reader in
    let read = c.go_on.ensures.reads.on c.args.tail.now c.args.disk.now (nothing_read (IsTrue d.told) d.view d.faults c.args.tail.now c.args.disk.now c.in-Ok.field-0.key c.in-Ok.ensures.key.pushed) in
    let shipped = c.settle-has_failed.ensures.ships.on peer
    (c.go_on.ensures.ships.on peer (nothing_shipped p.has p.torn p.stays p.faults peer _ _ (g.met.P.Peer.stays_itself peer) refl refl c.in-Ok.ensures.consumer.2)) in
    gone_failed (IsTrue d.told) d.view d.faults p.has p.torn p.stays p.faults c.args.tail.now c.args.disk.now peer c.go_on.new.tail c.go_on.new.disk c.settle-has_failed.new.peer
    half.key half.stage c.settle-has_failed.result.0 c.settle-has_failed.result.1 read shipped c.if-has_failed.true

pub returns-in-AtEnd : goal.returns-in-AtEnd
returns-in-AtEnd g c =
    let d = g.D.Disk in
    let p = g.P.Peer in
    let peer = c.args.peer.now in
    let half = c.go_on.new.reader in
    let read = c.go_on.ensures.reads.on c.args.tail.now c.args.disk.now (nothing_read (IsTrue d.told) d.view d.faults c.args.tail.now c.args.disk.now c.in-Ok.field-0.key c.in-Ok.ensures.key.pushed) in
    let shipped = c.settle-has_failed.ensures.ships.on peer
    (c.go_on.ensures.ships.on peer (nothing_shipped p.has p.torn p.stays p.faults peer _ _ (g.met.P.Peer.stays_itself peer) refl refl c.in-Ok.ensures.consumer.2)) in
    gone_whole (IsTrue d.told) d.view d.faults p.has p.torn p.stays p.faults c.args.tail.now c.args.disk.now peer c.go_on.new.tail c.go_on.new.disk c.settle-has_failed.new.peer
    half.key half.stage c.settle-has_failed.result.0 c.settle-has_failed.result.1 read shipped c.if-has_failed.false c.in-AtEnd.is

pub returns-in-Refused : goal.returns-in-Refused
returns-in-Refused g c =
    let d = g.D.Disk in
    let p = g.P.Peer in
    let peer = c.args.peer.now in
    let half = c.go_on.new.reader in
    let read = c.go_on.ensures.reads.on c.args.tail.now c.args.disk.now (nothing_read (IsTrue d.told) d.view d.faults c.args.tail.now c.args.disk.now c.in-Ok.field-0.key c.in-Ok.ensures.key.pushed) in
    let shipped = c.settle-has_failed.ensures.ships.on peer
    (c.go_on.ensures.ships.on peer (nothing_shipped p.has p.torn p.stays p.faults peer _ _ (g.met.P.Peer.stays_itself peer) refl refl c.in-Ok.ensures.consumer.2)) in
    gone_refused (IsTrue d.told) d.view d.faults p.has p.torn p.stays p.faults c.args.tail.now c.args.disk.now peer c.go_on.new.tail c.go_on.new.disk c.settle-has_failed.new.peer
    half.key half.stage c.settle-has_failed.result.0 c.settle-has_failed.result.1 read shipped c.if-has_failed.false c.in-Refused.e c.in-Refused.is
