use Rattle.std.proofs.Common.{◌^◌, refl, sym, subst}
use Rattle.log_model.specs.Files.{IsSound}
use Rattle.embedded.specs.wal_split.Moments.{During, WasOrAlike}
use Rattle.run_model.specs.Headline.{KeepsThroughout}
use Rattle.embedded.specs.region_calls.Store.{disk_now, handlers_of}
use Rattle.embedded.proofs.region_calls_laws.OwnNames.{own_name}
use Rattle.embedded.specs.Flushers.{callers}
use Rattle.embedded.proofs.Flushing.{may_flush}
use Rattle.embedded_run.specs.Ends.{disk_of}
use Rattle.embedded_run.proofs.Elapsed.{opened_throughout}
use Rattle.embedded_run.proofs.Ending.{if_damaged}
use Rattle.embedded_run.proofs.running.run_handlers.Goals as goal

pub serve-requires-clause-sound : goal.serve-requires-clause-sound
serve-requires-clause-sound g c κs within told = subst (λ d. IsSound (g.D.Disk.view d).files) (sym c.in-Ok.ensures.found) (c.in-Ok.ensures.sound told)

pub serve-requires-clause-any_moment : goal.serve-requires-clause-any_moment
serve-requires-clause-any_moment g c κs within told =
    subst (λ d. During (WasOrAlike (g.D.Disk.view d)) (g.D.Disk.view d) (g.D.Disk.view (disk_now c.in-Ok.opened))) (sym c.in-Ok.ensures.found) (c.in-Ok.ensures.any_moment told)

pub serve-requires-clause-flushers : goal.serve-requires-clause-flushers
serve-requires-clause-flushers g c κs within r h n low high few = may_flush (handlers_of c.in-Ok.opened) (2 ^ 32) h n low high few

pub serve-requires-clause-name : goal.serve-requires-clause-name
serve-requires-clause-name g c κs within = own_name g.D.Disk (λ r. callers (handlers_of c.in-Ok.opened) (2 ^ 32)) c.in-Ok.opened

pub returns-in-Err-clause-any_moment : goal.returns-in-Err-clause-any_moment
returns-in-Err-clause-any_moment g c told = opened_throughout (g.D.Disk.view c.args.disk) (g.D.Disk.view c.in-Err.field-0.disk) (c.in-Err.ensures.any_moment told)

pub returns-in-Ok-clause-any_moment : goal.returns-in-Ok-clause-any_moment
returns-in-Ok-clause-any_moment g c told =
    subst (λ d. KeepsThroughout (g.D.Disk.view d) (g.D.Disk.view (disk_of c.serve.result))) c.in-Ok.ensures.found (c.serve.ensures.any_moment told)

pub returns-in-Err-clause-ends : goal.returns-in-Err-clause-ends
returns-in-Err-clause-ends g c = (
  refl,
  (λ told. (
    ∣ c.in-Err.ensures.any_moment told ∣₁,
    if_damaged c.in-Err.field-0.why (g.D.Disk.view c.args.disk) (g.D.Disk.view c.in-Err.field-0.disk)
        (λ damage is. let d = c.in-Err.ensures.damaged told damage is in (c.in-Err.ensures.unsound told damage is, d.0, d.1)),
  )),
)
