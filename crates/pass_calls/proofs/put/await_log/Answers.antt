use Rattle.std.proofs.Common.{refl, sym, subst}
use Rattle.kv_cell.specs.declared.batch.Durability.{Durability}
use Rattle.region_lock.specs.Answers.{is_sync}
use Rattle.region_lock.specs.Puts.{IsAskedFor}
use Rattle.pass_calls.proofs.WatchLaws.{asked_same}
use Rattle.pass_calls.proofs.put.await_log.Goals as goal

pub returns-in-Sync-clause-asked : goal.returns-in-Sync-clause-asked
returns-in-Sync-clause-asked g c =
    subst (λ (d : Durability). IsAskedFor (is_sync d) c.args.region c.args.number c.args.asked.now c.ask.new.asked c.wait_logged.new.seat.device.knows.broken) (sym c.in-Sync.is)
    (asked_same c.args.region c.args.number c.args.number c.args.asked.now c.ask.new.asked c.ask.new.seat.device.knows.broken c.wait_logged.new.seat.device.knows.broken refl
    (λ e. (c.wait_logged.ensures.later.fault e).0) c.ask.ensures.asked)
