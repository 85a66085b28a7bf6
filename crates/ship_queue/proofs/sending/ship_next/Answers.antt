use Rattle.std.proofs.Common.{rules, ◌++◌, [], ◌∷◌, List, true, refl, sym, subst, append-nil}
use Rattle.ship_queue.specs.Messages.{Message, Entry_of, Record_of, placed, position_behind}
use Rattle.ship_queue.proofs.Sends.{one_cut, record_cut, entry_next, record_next}
use Rattle.ship_queue.proofs.sending.ship_next.Goals as goal

pub returns-in_err-ship-clause-stopped : goal.returns-in_err-ship-clause-stopped
returns-in_err-ship-clause-stopped g c err ms ns h k = one_cut ms ns (placed c.args.at c.args.entry.now) (c.in_err-ship.ensures.failed ms ns h k (refl {a = true}))

pub returns-clause-stopped : goal.returns-clause-stopped
returns-clause-stopped g c err ms ns h k =
    let x = placed c.args.at c.args.entry.now in
    record_cut ms ns x (c.confirm.ensures.failed (ms ++ Entry_of x ∷ []) ns (c.in_ok-ship.ensures.shipped ms h) k err)

pub returns-in_err-ship-clause-torn : goal.returns-in_err-ship-clause-torn
returns-in_err-ship-clause-torn g c err ms h =
    let x = placed c.args.at c.args.entry.now in
    ([], Entry_of x, subst (λ (l : List Message). g.P.Peer.torn c.ship.new.self l (Entry_of x)) (sym (append-nil ms)) (c.in_err-ship.ensures.torn ms h (refl {a = true})), entry_next c.args.count.now.unrecorded x c.args.count.now.within)

pub returns-clause-torn : goal.returns-clause-torn
returns-clause-torn g c err ms h =
    let x = placed c.args.at c.args.entry.now in
    (Entry_of x ∷ [], Record_of (position_behind x), c.confirm.ensures.torn (ms ++ Entry_of x ∷ []) (c.in_ok-ship.ensures.shipped ms h) err, record_next c.args.count.now.unrecorded x (search rules))
