use Rattle.std.proofs.Common.{◌≡◌, length, refl, sym, ◌∙◌, subst}
use Rattle.log_model.specs.Files.{IsSound}
use Rattle.script_model.specs.Calls.{Script}
use Rattle.script_run.specs.region_calls.Names.{name_of}
use Rattle.script_run.specs.region_calls.Seeds.{base_at, lasts_of}
use Rattle.script_run.specs.region_calls.Store.{bases_of, disk_found, disk_now, handlers_of, regions_of}
use Rattle.script_run.proofs.region_calls_laws.OwnNames.{own_name}
use Rattle.run_model.specs.Closed.{flushes_in}
use Rattle.recover_command.specs.wal_split.Moments.{During, WasOrAlike}
use Rattle.run_model.specs.Headline.{KeepsFound, KeepsThroughout}
use Rattle.command_base.proofs.Endings.{rose_from}
use Rattle.script_run.specs.Rooms.{script_in}
use Rattle.script_run.proofs.Elapsed.{opened_throughout}
use Rattle.run_command.proofs.Leaving.{all_named, stays_throughout, untouched, closed_ran, not_opened}
use Rattle.run_command.proofs.carrying.carry_out.Goals as goal

pub returns-in_default-clause-ran : goal.returns-in_default-clause-ran
returns-in_default-clause-ran g c told = untouched (g.D.Disk.view c.args.disk)

pub serve-requires-clause-sound : goal.serve-requires-clause-sound
serve-requires-clause-sound g c κs within told = subst (λ d. IsSound (g.D.Disk.view d).files) (sym c.in-Ok-open.ensures.found) (c.in-Ok-open.ensures.sound told)

pub serve-requires-clause-any_moment : goal.serve-requires-clause-any_moment
serve-requires-clause-any_moment g c κs within told =
    subst (λ d. During (WasOrAlike (g.D.Disk.view d)) (g.D.Disk.view d) (g.D.Disk.view (disk_now c.in-Ok-open.opened))) (sym c.in-Ok-open.ensures.found) (c.in-Ok-open.ensures.any_moment told)

pub serve-requires-clause-named : goal.serve-requires-clause-named
serve-requires-clause-named g c κs within = record { regions = all_named c.in-Ok-open.opened c.in-Ok-open.ensures.store; flushes = λ r. refl }

pub serve-requires-clause-name : goal.serve-requires-clause-name
serve-requires-clause-name g c κs within =
    own_name g.D.Disk (λ r. flushes_in r (script_in c.script.inside.time (regions_of c.in-Ok-open.opened) c.in-Ok.rooms.items)) c.in-Ok-open.opened

pub returns-in-Closed-clause-ran : goal.returns-in-Closed-clause-ran
returns-in-Closed-clause-ran g c told =
    let opened = c.in-Ok-open.opened in
    let made : Script = script_in c.script.inside.time (regions_of c.in-Ok-open.opened) c.in-Ok.rooms.items in
    let same : made ≡ c.args.script = (λ i. record { time = c.script.inside.time; regions = c.in-Ok-open.ensures.sizes.0 i; handlers = c.in-Ok.ensures.calls i }) ∙ c.script.view_is in
    closed_ran g.D.Disk.view c.args.script made (disk_found c.in-Ok-open.opened) c.args.disk (g.D.Disk.view c.in-Closed.disk)
    (name_of (length (lasts_of (bases_of opened))) (handlers_of opened) (base_at (bases_of opened)) (λ r. flushes_in r made)) c.in-Closed.regions.items c.in-Closed.replies.items c.in-Closed.spent c.in-Closed.broken
    c.in-Ok-open.ensures.found same (c.in-Closed.ensures.served told)

pub returns-in-Closed-clause-cause : goal.returns-in-Closed-clause-cause
returns-in-Closed-clause-cause g c broken =
    rose_from (g.D.Disk.faults c.args.disk) (g.D.Disk.faults (disk_now c.in-Ok-open.opened)) (g.D.Disk.faults c.in-Closed.disk) c.in-Ok-open.ensures.cause.later (c.in-Closed.ensures.count.1 broken)

pub returns-in-Left-clause-ran : goal.returns-in-Left-clause-ran
returns-in-Left-clause-ran g c told = subst (λ d. KeepsFound (g.D.Disk.view d) (g.D.Disk.view c.in-Left.disk)) c.in-Ok-open.ensures.found (c.in-Left.ensures.served told)

pub returns-in-Err-clause-ran : goal.returns-in-Err-clause-ran
returns-in-Err-clause-ran g c told =
    not_opened c.in-Err.field-0.why (g.D.Disk.view c.args.disk) (g.D.Disk.view c.in-Err.field-0.disk) (c.in-Err.ensures.any_moment told) (λ damage is. let found = c.in-Err.ensures.damaged told damage is in ((c.in-Err.ensures.unsound told damage is, found.0), found.1))

pub returns-in_default-clause-any_moment : goal.returns-in_default-clause-any_moment
returns-in_default-clause-any_moment g c told = stays_throughout (g.D.Disk.view c.args.disk)

pub returns-in-Closed-clause-any_moment : goal.returns-in-Closed-clause-any_moment
returns-in-Closed-clause-any_moment g c told = subst (λ d. KeepsThroughout (g.D.Disk.view d) (g.D.Disk.view c.in-Closed.disk)) c.in-Ok-open.ensures.found (c.in-Closed.ensures.any_moment told)

pub returns-in-Left-clause-any_moment : goal.returns-in-Left-clause-any_moment
returns-in-Left-clause-any_moment g c told = subst (λ d. KeepsThroughout (g.D.Disk.view d) (g.D.Disk.view c.in-Left.disk)) c.in-Ok-open.ensures.found (c.in-Left.ensures.any_moment told)

pub returns-in-Err-clause-any_moment : goal.returns-in-Err-clause-any_moment
returns-in-Err-clause-any_moment g c told = opened_throughout (g.D.Disk.view c.args.disk) (g.D.Disk.view c.in-Err.field-0.disk) (c.in-Err.ensures.any_moment told)
