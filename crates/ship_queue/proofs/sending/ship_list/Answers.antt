use Rattle.std.proofs.Common.{◌≡◌, ℕ, ◌+◌, ◌∙◌, ◌++◌, [], ◌∷◌, List, length, take, drop, true, refl, sym, ap, subst, arith}
use Rattle.log_model.specs.Entry.{Entry}
use Rattle.chronicle_model.specs.Chronicle.{Placed}
use Rattle.log_tail.specs.Reads.{placed_behind}
use Rattle.ship_queue.specs.Sent.{HasSent, HasStopped, HasTorn}
use Rattle.ship_queue.proofs.Places.{placed_next, placed_split}
use Rattle.ship_queue.proofs.Sends.{none_sent, sent_joined, stopped_behind, stopped_longer, torn_behind, torn_longer}
use Rattle.ship_queue.proofs.sending.ship_list.Goals as goal

pub loop-entry-init : goal.loop-entry-init
loop-entry-init g c = record {
  place = omega arith;
  sent = none_sent g.P.Peer.has c.args.peer.now c.args.count.now.unrecorded;
  count = λ n is. is ∙ omega arith;
  stays = g.met.P.Peer.stays_itself c.args.peer.now;
  later = omega arith;
}

pub loop-entry-preserved : goal.loop-entry-preserved
loop-entry-preserved g c =
    let was = c.loop-entry.invariant in
    let j : ℕ = c.loop-entry.entry-index in
    let f : ℕ = c.args.at.file in
    let n : ℕ = c.args.at.entries in
    let x : Placed = record { file = f; place = c.loop-entry.place + 1; entry = c.entry-item.result } in
    let next : placed_behind f n (take (j + 1) c.args.entries.now) ≡ placed_behind f n (take j c.args.entries.now) ++ x ∷ [] =
    placed_next f n c.args.entries.now j (c.loop-entry.place + 1) c.entry-item.result c.loop-entry-test.true c.entry-item.is (omega (arith, was.place)) in
    record {
      place = omega (arith, was.place);
      sent = subst (HasSent g.P.Peer.has c.args.peer.now c.ship_next.new.peer c.args.count.now.unrecorded c.ship_next.new.count.unrecorded) (sym next)
          (sent_joined g.P.Peer.has c.args.peer.now c.loop-entry.peer c.ship_next.new.peer c.args.count.now.unrecorded c.loop-entry.count.unrecorded c.ship_next.new.count.unrecorded (placed_behind f n (take j c.args.entries.now)) (x ∷ []) was.sent c.in_ok-ship_next.ensures.sent);
      count = λ m is. omega (arith, was.count m is, c.in_ok-ship_next.ensures.count);
      stays = g.met.P.Peer.stays_on c.args.peer.now c.loop-entry.peer c.ship_next.new.peer was.stays c.ship_next.ensures.stays;
      later = omega (arith, was.later, c.ship_next.ensures.cause.later);
    }

pub returns-in_err-ship_next-clause-stopped : goal.returns-in_err-ship_next-clause-stopped
returns-in_err-ship_next-clause-stopped g c err =
    let was = c.loop-entry.invariant in
    let j : ℕ = c.loop-entry.entry-index in
    let f : ℕ = c.args.at.file in
    let n : ℕ = c.args.at.entries in
    let es : List Entry = c.args.entries.now in
    let x : Placed = record { file = f; place = c.loop-entry.place + 1; entry = c.entry-item.result } in
    let next : placed_behind f n (take (j + 1) es) ≡ placed_behind f n (take j es) ++ x ∷ [] =
    placed_next f n es j (c.loop-entry.place + 1) c.entry-item.result c.loop-entry-test.true c.entry-item.is (omega (arith, was.place)) in
    let rest : List Placed = placed_behind f (n + length (take (j + 1) es)) (drop (j + 1) es) in
    let all : placed_behind f n es ≡ (placed_behind f n (take j es) ++ x ∷ []) ++ rest = placed_split f n es (j + 1) ∙ ap (λ (l : List Placed). l ++ rest) next in
    subst (HasStopped g.P.Peer.has c.args.peer.now c.ship_next.new.peer) (sym all)
    (stopped_longer g.P.Peer.has c.args.peer.now c.ship_next.new.peer (placed_behind f n (take j es) ++ x ∷ []) rest
    (stopped_behind g.P.Peer.has c.args.peer.now c.loop-entry.peer c.ship_next.new.peer c.args.count.now.unrecorded c.loop-entry.count.unrecorded (placed_behind f n (take j es)) (x ∷ []) was.sent (c.in_err-ship_next.ensures.stopped (refl {a = true}))))

pub returns-in_err-ship_next-clause-torn : goal.returns-in_err-ship_next-clause-torn
returns-in_err-ship_next-clause-torn g c err =
    let was = c.loop-entry.invariant in
    let j : ℕ = c.loop-entry.entry-index in
    let f : ℕ = c.args.at.file in
    let n : ℕ = c.args.at.entries in
    let es : List Entry = c.args.entries.now in
    let x : Placed = record { file = f; place = c.loop-entry.place + 1; entry = c.entry-item.result } in
    let next : placed_behind f n (take (j + 1) es) ≡ placed_behind f n (take j es) ++ x ∷ [] =
    placed_next f n es j (c.loop-entry.place + 1) c.entry-item.result c.loop-entry-test.true c.entry-item.is (omega (arith, was.place)) in
    let rest : List Placed = placed_behind f (n + length (take (j + 1) es)) (drop (j + 1) es) in
    let all : placed_behind f n es ≡ (placed_behind f n (take j es) ++ x ∷ []) ++ rest = placed_split f n es (j + 1) ∙ ap (λ (l : List Placed). l ++ rest) next in
    subst (HasTorn g.P.Peer.has g.P.Peer.torn c.args.peer.now c.ship_next.new.peer c.args.count.now.unrecorded) (sym all)
    (torn_longer g.P.Peer.has g.P.Peer.torn c.args.peer.now c.ship_next.new.peer c.args.count.now.unrecorded (placed_behind f n (take j es) ++ x ∷ []) rest
    (torn_behind g.P.Peer.has g.P.Peer.torn c.args.peer.now c.loop-entry.peer c.ship_next.new.peer c.args.count.now.unrecorded c.loop-entry.count.unrecorded (placed_behind f n (take j es)) (x ∷ []) was.sent (c.in_err-ship_next.ensures.torn (refl {a = true}))))
