use Rattle.std.proofs.Common.{◌≡◌, sym, ◌∙◌, subst, arith}
use Rattle.disk_images.specs.Calls.{Rose}
use Rattle.script_model.specs.Calls.{IsScript}
use Rattle.groups_run.specs.region_calls.Store.{regions_of}
use Rattle.run_model.specs.Closed.{IsNameFor, flushes_in}
use Rattle.run_model.specs.Headline.{KeepsFound, KeepsThroughout}
use Rattle.groups_run.specs.script_run.Rooms.{script_in}
use Rattle.run_command.proofs.Leaving.{stays_throughout, untouched}
use Rattle.groups_run.specs.group_servers.group_lists.Lists.{count_of}
use Rattle.groups_run.proofs.group_servers_laws.group_lists_laws.Each.{same_count}
use Rattle.groups_run.specs.group_servers.Refusals.{GoesOn}
use Rattle.groups_run.specs.Found.{faults_now, found_views, value_of, views}
use Rattle.groups_command.specs.Disks.{RoseAt}
use Rattle.groups_command.proofs.Leaving.{opened_at, found_at, are_found, are_alike, rose_of, rose_since, named_by, named_at, fits_script, named_each, closed_ran, of_each, none_has_others, went_on, no_less, not_opened, refused_rose}
use Rattle.groups_command.proofs.carrying.carry_out_groups.Goals as goal

-- ---- no memory for the rooms

pub returns-in_default-clause-ran : goal.returns-in_default-clause-ran
returns-in_default-clause-ran g c told k is = untouched (views g.D.Disk.view c.args.disks k)

pub returns-in_default-clause-any_moment : goal.returns-in_default-clause-any_moment
returns-in_default-clause-any_moment g c told k is = stays_throughout (views g.D.Disk.view c.args.disks k)

-- ---- opened

pub serve_groups-requires-clause-script : goal.serve_groups-requires-clause-script
serve_groups-requires-clause-script g c κs within =
    let same : (script_in c.script.inside.time (regions_of c.in-Ok-open_groups.opened.first) c.in-Ok.rooms.items) ≡ c.args.script = (λ i. record { time = c.script.inside.time; regions = c.in-Ok-open_groups.ensures.opened.first.sizes.0 i; handlers = c.in-Ok.ensures.calls i }) ∙ c.script.view_is in
    subst IsScript (sym same) c.requires.script

pub serve_groups-requires-clause-alike : goal.serve_groups-requires-clause-alike
serve_groups-requires-clause-alike g c κs within = are_alike g.D.Disk _ _ c.args.disks c.in-Ok-open_groups.opened c.in-Ok-open_groups.ensures.opened

pub serve_groups-requires-clause-found : goal.serve_groups-requires-clause-found
serve_groups-requires-clause-found g c κs within told = are_found g.D.Disk _ _ c.args.disks c.in-Ok-open_groups.opened c.in-Ok-open_groups.ensures.opened told

pub serve_groups-requires-clause-named_1 : goal.serve_groups-requires-clause-named_1
serve_groups-requires-clause-named_1 g c κs within = named_by _ g.D.Disk (λ r. flushes_in r (script_in c.script.inside.time (regions_of c.in-Ok-open_groups.opened.first) c.in-Ok.rooms.items)) c.in-Ok-open_groups.opened.first c.in-Ok-open_groups.ensures.opened.first.store

pub serve_groups-requires-clause-named_2 : goal.serve_groups-requires-clause-named_2
serve_groups-requires-clause-named_2 g c κs within =
    named_at _ g.D.Disk (λ r. flushes_in r (script_in c.script.inside.time (regions_of c.in-Ok-open_groups.opened.first) c.in-Ok.rooms.items)) _ _ c.args.disks.first c.args.disks.second c.in-Ok-open_groups.opened.first c.in-Ok-open_groups.opened.second c.in-Ok-open_groups.ensures.opened.second

pub serve_groups-requires-clause-named_3 : goal.serve_groups-requires-clause-named_3
serve_groups-requires-clause-named_3 g c κs within =
    named_at _ g.D.Disk (λ r. flushes_in r (script_in c.script.inside.time (regions_of c.in-Ok-open_groups.opened.first) c.in-Ok.rooms.items)) _ _ c.args.disks.first c.args.disks.third c.in-Ok-open_groups.opened.first c.in-Ok-open_groups.opened.third c.in-Ok-open_groups.ensures.opened.third

pub serve_groups-requires-clause-named_4 : goal.serve_groups-requires-clause-named_4
serve_groups-requires-clause-named_4 g c κs within =
    named_at _ g.D.Disk (λ r. flushes_in r (script_in c.script.inside.time (regions_of c.in-Ok-open_groups.opened.first) c.in-Ok.rooms.items)) _ _ c.args.disks.first c.args.disks.fourth c.in-Ok-open_groups.opened.first c.in-Ok-open_groups.opened.fourth c.in-Ok-open_groups.ensures.opened.fourth

pub serve_groups-requires-clause-fits : goal.serve_groups-requires-clause-fits
serve_groups-requires-clause-fits g c κs within =
    let at = opened_at g.D.Disk _ _ c.args.disks c.in-Ok-open_groups.opened c.in-Ok-open_groups.ensures.opened in
    let first = (at 1).sizes.0 in
    named_each (IsNameFor (script_in c.script.inside.time (regions_of c.in-Ok-open_groups.opened.first) c.in-Ok.rooms.items)) _ _ _ _
    (fits_script g.D.Disk (script_in c.script.inside.time (regions_of c.in-Ok-open_groups.opened.first) c.in-Ok.rooms.items) (value_of c.in-Ok-open_groups.opened 1) (at 1).store ((at 1).sizes.0 ∙ sym first))
    (fits_script g.D.Disk (script_in c.script.inside.time (regions_of c.in-Ok-open_groups.opened.first) c.in-Ok.rooms.items) (value_of c.in-Ok-open_groups.opened 2) (at 2).store ((at 2).sizes.0 ∙ sym first))
    (fits_script g.D.Disk (script_in c.script.inside.time (regions_of c.in-Ok-open_groups.opened.first) c.in-Ok.rooms.items) (value_of c.in-Ok-open_groups.opened 3) (at 3).store ((at 3).sizes.0 ∙ sym first))
    (fits_script g.D.Disk (script_in c.script.inside.time (regions_of c.in-Ok-open_groups.opened.first) c.in-Ok.rooms.items) (value_of c.in-Ok-open_groups.opened 4) (at 4).store ((at 4).sizes.0 ∙ sym first))

pub returns-in-Closed-clause-ran : goal.returns-in-Closed-clause-ran
returns-in-Closed-clause-ran g c told =
    let same : (script_in c.script.inside.time (regions_of c.in-Ok-open_groups.opened.first) c.in-Ok.rooms.items) ≡ c.args.script = (λ i. record { time = c.script.inside.time; regions = c.in-Ok-open_groups.ensures.opened.first.sizes.0 i; handlers = c.in-Ok.ensures.calls i }) ∙ c.script.view_is in (
      none_has_others g.D.Disk c.args.disks (c.in-Ok-open_groups.ensures.none_of_others told),
      closed_ran (count_of c.in-Ok-open_groups.opened) (count_of c.args.disks) (script_in c.script.inside.time (regions_of c.in-Ok-open_groups.opened.first) c.in-Ok.rooms.items) c.args.script (found_views g.D.Disk.view c.in-Ok-open_groups.opened) (views g.D.Disk.view c.args.disks) (views g.D.Disk.view c.in-Closed.disks)
          (λ k. Rose (faults_now g.D.Disk.faults c.in-Ok-open_groups.opened k) (g.D.Disk.faults (value_of c.in-Closed.disks k))) (RoseAt g.D.Disk.faults c.args.disks c.in-Closed.disks)
          c.in-Closed.regions.items c.in-Closed.replies.items c.in-Closed.spent c.in-Closed.broken c.in-Ok-open_groups.ensures.count same
          (found_at g.D.Disk _ _ c.args.disks c.in-Ok-open_groups.opened c.in-Ok-open_groups.ensures.opened)
          (rose_since g.D.Disk _ _ c.args.disks c.in-Ok-open_groups.opened c.in-Ok-open_groups.ensures.opened c.in-Closed.disks) (c.in-Closed.ensures.served told),
    )

pub returns-in-Closed-clause-any_moment : goal.returns-in-Closed-clause-any_moment
returns-in-Closed-clause-any_moment g c told =
    of_each KeepsThroughout (count_of c.in-Ok-open_groups.opened) (count_of c.args.disks) (found_views g.D.Disk.view c.in-Ok-open_groups.opened) (views g.D.Disk.view c.args.disks) (views g.D.Disk.view c.in-Closed.disks) c.in-Ok-open_groups.ensures.count
    (found_at g.D.Disk _ _ c.args.disks c.in-Ok-open_groups.opened c.in-Ok-open_groups.ensures.opened) (c.in-Closed.ensures.any_moment told)

pub returns-in-Closed-clause-cause : goal.returns-in-Closed-clause-cause
returns-in-Closed-clause-cause g c broken = rose_of g.D.Disk _ _ c.args.disks c.in-Ok-open_groups.opened c.in-Ok-open_groups.ensures.opened c.requires.row c.in-Closed.disks (c.in-Closed.ensures.count.cause broken)

pub returns-in-Closed-clause-later : goal.returns-in-Closed-clause-later
returns-in-Closed-clause-later g c k is =
    let at = opened_at g.D.Disk _ _ c.args.disks c.in-Ok-open_groups.opened c.in-Ok-open_groups.ensures.opened k in
    omega (arith, at.goes_on.later, c.in-Closed.ensures.count.later k)

pub returns-in-Closed-clause-as_many : goal.returns-in-Closed-clause-as_many
returns-in-Closed-clause-as_many g c = c.in-Closed.ensures.as_many ∙ c.in-Ok-open_groups.ensures.count

pub returns-in-Left-clause-ran : goal.returns-in-Left-clause-ran
returns-in-Left-clause-ran g c told =
    of_each KeepsFound (count_of c.in-Ok-open_groups.opened) (count_of c.args.disks) (found_views g.D.Disk.view c.in-Ok-open_groups.opened) (views g.D.Disk.view c.args.disks) (views g.D.Disk.view c.in-Left.disks) c.in-Ok-open_groups.ensures.count
    (found_at g.D.Disk _ _ c.args.disks c.in-Ok-open_groups.opened c.in-Ok-open_groups.ensures.opened) (c.in-Left.ensures.served told)

pub returns-in-Left-clause-any_moment : goal.returns-in-Left-clause-any_moment
returns-in-Left-clause-any_moment g c told =
    of_each KeepsThroughout (count_of c.in-Ok-open_groups.opened) (count_of c.args.disks) (found_views g.D.Disk.view c.in-Ok-open_groups.opened) (views g.D.Disk.view c.args.disks) (views g.D.Disk.view c.in-Left.disks) c.in-Ok-open_groups.ensures.count
    (found_at g.D.Disk _ _ c.args.disks c.in-Ok-open_groups.opened c.in-Ok-open_groups.ensures.opened) (c.in-Left.ensures.any_moment told)

pub returns-in-Left-clause-later : goal.returns-in-Left-clause-later
returns-in-Left-clause-later g c k is =
    let at = opened_at g.D.Disk _ _ c.args.disks c.in-Ok-open_groups.opened c.in-Ok-open_groups.ensures.opened k in
    omega (arith, at.goes_on.later, c.in-Left.ensures.count.later k)

pub returns-in-Left-clause-as_many : goal.returns-in-Left-clause-as_many
returns-in-Left-clause-as_many g c = c.in-Left.ensures.as_many ∙ c.in-Ok-open_groups.ensures.count

-- ---- not opened

pub returns-in-Err-clause-ran : goal.returns-in-Err-clause-ran
returns-in-Err-clause-ran g c told =
    not_opened g.D.Disk c.args.disks c.in-Err.field-0.disks c.in-Err.ensures.goes_on c.requires.row c.in-Err.field-0.why c.in-Err.field-0.disk told c.in-Err.ensures.refused

pub returns-in-Err-clause-any_moment : goal.returns-in-Err-clause-any_moment
returns-in-Err-clause-any_moment g c told k is = went_on g.D.Disk c.args.disks c.in-Err.field-0.disks c.in-Err.ensures.goes_on told k

pub returns-in-Err-clause-cause : goal.returns-in-Err-clause-cause
returns-in-Err-clause-cause g c = refused_rose g.D.Disk c.args.disks c.in-Err.field-0.disks c.in-Err.ensures.goes_on c.requires.row c.in-Err.field-0.why c.in-Err.field-0.disk c.in-Err.ensures.refused

pub returns-in-Err-clause-later : goal.returns-in-Err-clause-later
returns-in-Err-clause-later g c k is = no_less g.D.Disk c.args.disks c.in-Err.field-0.disks c.in-Err.ensures.goes_on k

pub returns-in-Err-clause-as_many : goal.returns-in-Err-clause-as_many
returns-in-Err-clause-as_many g c = same_count (GoesOn g.D.Disk) c.args.disks c.in-Err.field-0.disks c.in-Err.ensures.goes_on
