use Rattle.std.proofs.Common.{◌≡◌, true, ◌∙◌, Err, refl, sym, ap, subst, arith}
use Rattle.log_model.specs.Files.{Files}
use Rattle.log_tail.specs.declared.refusal.TailRefusal.{TailRefusal}
use Rattle.log_tail.specs.Position.{position_of}
use Rattle.chronicle_model.specs.Chronicle.{Position}
use Rattle.ship_queue.specs.declared.error.ShipRefusal.TheVariants as ships
use Rattle.ship_queue.specs.declared.rounds.Ending.TheVariants as endings
use Rattle.ship_queue.specs.Course.{HasReadOn, IsAtEnd}
use Rattle.ship_queue.specs.Shipping.{ShipsUpTo, IsStop}
use Rattle.ship_queue.proofs.Ends.{never_peer, was_disk, was_damaged, was_no_position}
use Rattle.ship_queue.proofs.Going.{all_texts, ships_so_far, part_so_far, ships_all, part_at_end, torn_so_far, torn_at_end}
use Rattle.ship_queue.proofs.Leads.{damaged_stuck, out_stuck, none_ahead, damage_shown, out_shown}
use Rattle.ship_queue.proofs.Stops.{step_cut, step_so_far, step_all, step_at_end, end_stop}
use Rattle.ship_queue.proofs.shipping.ship_all.Goals as goal

-- ---- the tail is refused

pub returns-in-Refused-clause-ships : goal.returns-in-Refused-clause-ships
returns-in-Refused-clause-ships g c told ms h not_peer =
    let w = c.in-Refused.ensures in
    let s = ships_so_far g.P.Peer.has (g.D.Disk.view c.args.disk.now).files c.args.tail.now c.ship_read.new.tail c.args.peer.now c.ship_read.new.peer w.xs (w.read told) ms h w.shipped.0 w.shipped.1 w.shipped.2 in
    (s.0, s.1, s.2, s.3, tt)

pub returns-in-Refused-clause-leads : goal.returns-in-Refused-clause-leads
returns-in-Refused-clause-leads g c = c.in-Refused.ensures.leads

pub returns-in-Refused-clause-tail : goal.returns-in-Refused-clause-tail
returns-in-Refused-clause-tail g c told chronicle is =
    let w = c.in-Refused.ensures in
    (w.xs, (w.read told).read chronicle is)

pub returns-in-Refused-clause-failed : goal.returns-in-Refused-clause-failed
returns-in-Refused-clause-failed g c told chronicle ms ns is h k failed =
    let same : c.from.result ≡ ships.PeerFault = cc failed in
    absurd (never_peer c.in-Refused.e (sym c.from.ensures ∙ same))

pub returns-in-Refused-clause-torn : goal.returns-in-Refused-clause-torn
returns-in-Refused-clause-torn g c told ms h failed =
    let same : c.from.result ≡ ships.PeerFault = cc failed in
    absurd (never_peer c.in-Refused.e (sym c.from.ensures ∙ same))

pub returns-in-Refused-clause-reached : goal.returns-in-Refused-clause-reached
returns-in-Refused-clause-reached g c told going chronicle ms is h not_peer =
    let w = c.in-Refused.ensures in
    step_so_far g.P.Peer.has (g.D.Disk.view c.args.disk.now).files c.args.tail.now c.ship_read.new.tail c.args.peer.now c.ship_read.new.peer w.xs (w.read told) ms h chronicle is w.shipped.0 w.shipped.1 w.shipped.2

pub returns-in-Refused-clause-reached_so_far : goal.returns-in-Refused-clause-reached_so_far
returns-in-Refused-clause-reached_so_far g c told going chronicle ms ns is h k failed =
    let same : c.from.result ≡ ships.PeerFault = cc failed in
    absurd (never_peer c.in-Refused.e (sym c.from.ensures ∙ same))

pub returns-in-Refused-clause-damaged : goal.returns-in-Refused-clause-damaged
returns-in-Refused-clause-damaged g c told name at is =
    let same : c.from.result ≡ ships.Damaged name at = cc is in
    (c.in-Refused.ensures.stopped told).damaged name at (ap Err (was_damaged c.in-Refused.e name at (sym c.from.ensures ∙ same)))

pub returns-in-Refused-clause-damage : goal.returns-in-Refused-clause-damage
returns-in-Refused-clause-damage g c told q name at ahead d =
    let w = c.in-Refused.ensures in
    let e : TailRefusal = c.in-Refused.e in
    damage_shown (Err e) (Err c.from.result) e refl (ap Err c.from.ensures) (g.D.Disk.view c.args.disk.now).files c.args.tail.now c.ship_read.new.tail (w.leads told) (refl {a = true}) (w.stopped told) q ahead name at d

pub returns-in-Refused-clause-no_position : goal.returns-in-Refused-clause-no_position
returns-in-Refused-clause-no_position g c told file has is =
    let same : c.from.result ≡ ships.NoPosition file has = cc is in
    (c.in-Refused.ensures.stopped told).no_position file has (ap Err (was_no_position c.in-Refused.e file has (sym c.from.ensures ∙ same)))

pub returns-in-Refused-clause-out : goal.returns-in-Refused-clause-out
returns-in-Refused-clause-out g c told q file has ahead out =
    let w = c.in-Refused.ensures in
    let e : TailRefusal = c.in-Refused.e in
    out_shown (Err e) (Err c.from.result) e refl (ap Err c.from.ensures) (g.D.Disk.view c.args.disk.now).files c.args.tail.now c.ship_read.new.tail (w.leads told) (refl {a = true}) (w.stopped told) q ahead file has out

pub returns-in-Refused-clause-disk_cause : goal.returns-in-Refused-clause-disk_cause
returns-in-Refused-clause-disk_cause g c =
    let w = c.in-Refused.ensures in
    record {
      later = w.disk_cause.later;
      risen = λ is.
          let same : c.from.result ≡ ships.DiskFault = cc is in
          w.disk_cause.risen (ap endings.Refused (was_disk c.in-Refused.e (sym c.from.ensures ∙ same)));
    }

pub returns-in-Refused-clause-peer_cause : goal.returns-in-Refused-clause-peer_cause
returns-in-Refused-clause-peer_cause g c =
    record {
      later = c.in-Refused.ensures.peer_cause.later;
      risen = λ is.
          let same : c.from.result ≡ ships.PeerFault = cc is in
          absurd (never_peer c.in-Refused.e (sym c.from.ensures ∙ same));
    }

-- ---- the last record

pub returns-in_ok-confirm-in-AtEnd-clause-ships : goal.returns-in_ok-confirm-in-AtEnd-clause-ships
returns-in_ok-confirm-in-AtEnd-clause-ships g c told ms h not_peer =
    let w = c.in-AtEnd.ensures in
    let files : Files = (g.D.Disk.view c.args.disk.now).files in
    let p : Position = c.args.tail.now in
    let q : Position = position_of c.position-position.result in
    let same : q ≡ c.ship_read.new.tail = c.position-position.ensures in
    let read : HasReadOn files p q w.xs = subst (λ (r : Position). HasReadOn files p r w.xs) (sym same) (w.read told) in
    let end : IsAtEnd files q = subst (IsAtEnd files) (sym same) (w.stopped told).0 in
    let s = ships_all g.P.Peer.has files p q c.args.peer.now c.ship_read.new.peer w.xs read ms h c.in-AtEnd.count.unrecorded c.in-AtEnd.count.within c.confirm.new.self w.shipped.sent c.in_ok-confirm-in-AtEnd.ensures.recorded end in
    (s.0, s.1, s.2, subst (ShipsUpTo files p s.0) same s.3, s.4)

pub returns-in_ok-confirm-in-AtEnd-clause-all : goal.returns-in_ok-confirm-in-AtEnd-clause-all
returns-in_ok-confirm-in-AtEnd-clause-all g c told =
    let w = c.in-AtEnd.ensures in
    all_texts (g.D.Disk.view c.args.disk.now).files c.args.tail.now c.ship_read.new.tail w.xs (w.read told) (w.stopped told).0

pub returns-in_ok-confirm-in-AtEnd-clause-reached : goal.returns-in_ok-confirm-in-AtEnd-clause-reached
returns-in_ok-confirm-in-AtEnd-clause-reached g c told going chronicle ms is h not_peer =
    let w = c.in-AtEnd.ensures in
    let files : Files = (g.D.Disk.view c.args.disk.now).files in
    let p : Position = c.args.tail.now in
    let q : Position = position_of c.position-position.result in
    let same : q ≡ c.ship_read.new.tail = c.position-position.ensures in
    let read : HasReadOn files p q w.xs = subst (λ (r : Position). HasReadOn files p r w.xs) (sym same) (w.read told) in
    let end : IsStop files p q = subst (IsStop files p) (sym same) (end_stop files going p c.ship_read.new.tail (w.leads told) (w.stopped told).1) in
    step_all g.P.Peer.has files p q c.args.peer.now c.ship_read.new.peer w.xs read ms h chronicle is c.in-AtEnd.count.unrecorded c.in-AtEnd.count.within w.shipped.sent c.confirm.new.self end c.in_ok-confirm-in-AtEnd.ensures.recorded

pub returns-in_ok-confirm-in-AtEnd-clause-damage : goal.returns-in_ok-confirm-in-AtEnd-clause-damage
returns-in_ok-confirm-in-AtEnd-clause-damage g c told q name at ahead d =
    let w = c.in-AtEnd.ensures in
    let files : Files = (g.D.Disk.view c.args.disk.now).files in
    absurd (none_ahead files c.args.tail.now c.ship_read.new.tail q (w.leads told) (w.stopped told).1 (damaged_stuck files q name at d) ahead)

pub returns-in_ok-confirm-in-AtEnd-clause-out : goal.returns-in_ok-confirm-in-AtEnd-clause-out
returns-in_ok-confirm-in-AtEnd-clause-out g c told q file has ahead out =
    let w = c.in-AtEnd.ensures in
    let files : Files = (g.D.Disk.view c.args.disk.now).files in
    absurd (none_ahead files c.args.tail.now c.ship_read.new.tail q (w.leads told) (w.stopped told).1 (out_stuck files q file has out) ahead)

-- ---- the last record fails

pub returns-in_err-confirm-in-AtEnd-clause-failed : goal.returns-in_err-confirm-in-AtEnd-clause-failed
returns-in_err-confirm-in-AtEnd-clause-failed g c told chronicle ms ns is h k failed =
    let w = c.in-AtEnd.ensures in
    let files : Files = (g.D.Disk.view c.args.disk.now).files in
    let p : Position = c.args.tail.now in
    let q : Position = position_of c.position-position.result in
    let same : q ≡ c.ship_read.new.tail = c.position-position.ensures in
    let read : HasReadOn files p q w.xs = subst (λ (r : Position). HasReadOn files p r w.xs) (sym same) (w.read told) in
    part_at_end g.P.Peer.has files p q c.args.peer.now c.ship_read.new.peer w.xs read ms h c.in-AtEnd.count.unrecorded c.in-AtEnd.count.within c.confirm.new.self w.shipped.sent chronicle is ns
    (λ ls hl. c.in_err-confirm-in-AtEnd.ensures.failed ls ns hl k (refl {a = true}))

pub returns-in_err-confirm-in-AtEnd-clause-torn : goal.returns-in_err-confirm-in-AtEnd-clause-torn
returns-in_err-confirm-in-AtEnd-clause-torn g c told ms h failed =
    let w = c.in-AtEnd.ensures in
    let files : Files = (g.D.Disk.view c.args.disk.now).files in
    let p : Position = c.args.tail.now in
    let q : Position = position_of c.position-position.result in
    let same : q ≡ c.ship_read.new.tail = c.position-position.ensures in
    let read : HasReadOn files p q w.xs = subst (λ (r : Position). HasReadOn files p r w.xs) (sym same) (w.read told) in
    torn_at_end g.P.Peer.has g.P.Peer.torn files p q c.args.peer.now c.ship_read.new.peer w.xs read ms h c.confirm.new.self c.in-AtEnd.count.unrecorded c.in-AtEnd.count.within w.shipped.sent
    (λ ls hl. c.in_err-confirm-in-AtEnd.ensures.torn ls hl (refl {a = true}))

pub returns-in_err-confirm-in-AtEnd-clause-reached_so_far : goal.returns-in_err-confirm-in-AtEnd-clause-reached_so_far
returns-in_err-confirm-in-AtEnd-clause-reached_so_far g c told going chronicle ms ns is h k failed =
    let w = c.in-AtEnd.ensures in
    let files : Files = (g.D.Disk.view c.args.disk.now).files in
    let p : Position = c.args.tail.now in
    let q : Position = position_of c.position-position.result in
    let same : q ≡ c.ship_read.new.tail = c.position-position.ensures in
    let read : HasReadOn files p q w.xs = subst (λ (r : Position). HasReadOn files p r w.xs) (sym same) (w.read told) in
    let end : IsStop files p q = subst (IsStop files p) (sym same) (end_stop files going p c.ship_read.new.tail (w.leads told) (w.stopped told).1) in
    step_at_end g.P.Peer.has files p q c.args.peer.now c.ship_read.new.peer w.xs read ms h chronicle is c.in-AtEnd.count.unrecorded c.in-AtEnd.count.within w.shipped.sent c.confirm.new.self end ns k
    (λ ls hl. c.in_err-confirm-in-AtEnd.ensures.failed ls ns hl k (refl {a = true}))

-- ---- the peer failed at an entry

pub returns-in-PeerFailed-clause-leads : goal.returns-in-PeerFailed-clause-leads
returns-in-PeerFailed-clause-leads g c = c.in-PeerFailed.ensures.leads

pub returns-in-PeerFailed-clause-tail : goal.returns-in-PeerFailed-clause-tail
returns-in-PeerFailed-clause-tail g c told chronicle is =
    let w = c.in-PeerFailed.ensures in
    (w.xs, (w.read told).read chronicle is)

pub returns-in-PeerFailed-clause-failed : goal.returns-in-PeerFailed-clause-failed
returns-in-PeerFailed-clause-failed g c told chronicle ms ns is h k failed =
    let w = c.in-PeerFailed.ensures in
    part_so_far g.P.Peer.has (g.D.Disk.view c.args.disk.now).files c.args.tail.now c.ship_read.new.tail c.args.peer.now c.ship_read.new.peer w.xs (w.read told) ms h 0 (omega arith) chronicle is ns w.shipped.stopped k

pub returns-in-PeerFailed-clause-torn : goal.returns-in-PeerFailed-clause-torn
returns-in-PeerFailed-clause-torn g c told ms h failed =
    let w = c.in-PeerFailed.ensures in
    torn_so_far g.P.Peer.has g.P.Peer.torn (g.D.Disk.view c.args.disk.now).files c.args.tail.now c.ship_read.new.tail c.args.peer.now c.ship_read.new.peer w.xs (w.read told) ms h w.shipped.cut

pub returns-in-PeerFailed-clause-reached_so_far : goal.returns-in-PeerFailed-clause-reached_so_far
returns-in-PeerFailed-clause-reached_so_far g c told going chronicle ms ns is h k failed =
    let w = c.in-PeerFailed.ensures in
    step_cut g.P.Peer.has (g.D.Disk.view c.args.disk.now).files c.args.tail.now c.ship_read.new.tail c.args.peer.now c.ship_read.new.peer w.xs (w.read told) ms h chronicle is 0 (omega arith) ns w.shipped.stopped k
