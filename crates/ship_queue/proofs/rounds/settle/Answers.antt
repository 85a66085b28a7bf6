use Rattle.std.proofs.Common.{◌≡◌, List, subst}
use Rattle.crossbeam_queue.specs.Passes.{view}
use Rattle.ship_queue.specs.declared.reading.Reading.{Reading}
use Rattle.ship_queue.specs.Halves.{ShipsOn}
use Rattle.ship_queue.proofs.HalfLaws.{closed_all}
use Rattle.ship_queue.proofs.rounds.settle.Goals as goal

pub returns-then-drained-clause-ships : goal.returns-then-drained-clause-ships
returns-then-drained-clause-ships g c =
    let p = g.P.Peer in
    let was = c.args.shipper in
    let now = c.loop-step.shipper in
    let popped : List Reading = (view now.consumer.pass).popped in
    let all : popped ≡ (view c.args.key.pass).pushed = closed_all c.args.key c.put_back.new.self c.loop-step.invariant.keys popped c.requires.key.1 c.close.ensures.equal in
    subst (λ (rs : List Reading). ShipsOn p.has p.torn p.stays p.faults c.args.peer.now c.loop-step.peer was.count now.count was.has_failed now.has_failed (view was.consumer.pass).popped rs) all c.loop-step.invariant.ships
