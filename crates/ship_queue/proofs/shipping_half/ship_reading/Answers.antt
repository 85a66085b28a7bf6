use Rattle.std.proofs.Common.{◌+◌, ◌∙◌, Bool, List, length, true, refl, ap, subst}
use Rattle.log_model.specs.Entry.{Entry}
use Rattle.log_tail.specs.Reads.{placed_behind}
use Rattle.ship_queue.specs.Course.{counted}
use Rattle.ship_queue.specs.Sent.{HasSent, HasStopped, HasTorn}
use Rattle.ship_queue.specs.Halves.{HasShipped}
use Rattle.ship_queue.proofs.HalfLaws.{dropped, shipped_on, shipped_to}
use Rattle.ship_queue.proofs.shipping_half.ship_reading.Goals as goal

pub returns-then-has_failed-clause-ships : goal.returns-then-has_failed-clause-ships
returns-then-has_failed-clause-ships g c first xs was =
    let p = g.P.Peer in
    let old = c.args.peer.now in
    let count = c.args.count.now in
    dropped p.has p.torn p.stays p.faults first old old xs c.args.reading.now count
    (subst (λ (b : Bool). HasShipped p.has p.torn p.stays p.faults first old count b xs) c.if-has_failed.true was)

pub returns-in-Ok-clause-ships : goal.returns-in-Ok-clause-ships
returns-in-Ok-clause-ships g c first xs was =
    let p = g.P.Peer in
    let old = c.args.peer.now in
    let now = c.ship_list.new.peer in
    let r = c.args.reading.now in
    let count = c.args.count.now in
    let next = c.ship_list.new.count in
    shipped_on p.has p.torn p.stays p.faults first old now xs r count next
    (subst (λ (b : Bool). HasShipped p.has p.torn p.stays p.faults first old count b xs) c.if-has_failed.false was)
    (λ s. g.met.P.Peer.stays_on first old now was.stays s)
    (subst (λ (es : List Entry). HasSent p.has old now count.unrecorded next.unrecorded (placed_behind r.at.file r.at.entries es)) c.as_slice.ensures c.in-Ok.ensures.sent)
    (λ n is. c.in-Ok.ensures.count n is ∙ ap (λ (es : List Entry). counted (n + length es)) c.as_slice.ensures)
    c.in-Ok.ensures.stays
    c.in-Ok.ensures.cause.later

pub returns-in-Err-clause-ships : goal.returns-in-Err-clause-ships
returns-in-Err-clause-ships g c first xs was =
    let p = g.P.Peer in
    let old = c.args.peer.now in
    let now = c.ship_list.new.peer in
    let r = c.args.reading.now in
    let count = c.args.count.now in
    let next = c.ship_list.new.count in
    shipped_to p.has p.torn p.stays p.faults first old now xs r count next
    (subst (λ (b : Bool). HasShipped p.has p.torn p.stays p.faults first old count b xs) c.if-has_failed.false was)
    (λ s. g.met.P.Peer.stays_on first old now was.stays s)
    (subst (λ (es : List Entry). HasStopped p.has old now (placed_behind r.at.file r.at.entries es)) c.as_slice.ensures (c.in-Err.ensures.stopped (refl {a = true})))
    (subst (λ (es : List Entry). HasTorn p.has p.torn old now count.unrecorded (placed_behind r.at.file r.at.entries es)) c.as_slice.ensures (c.in-Err.ensures.torn (refl {a = true})))
    c.in-Err.ensures.stays
    (record { later = c.in-Err.ensures.cause.later; risen = λ is. c.in-Err.ensures.cause.risen (refl {a = true}) })
