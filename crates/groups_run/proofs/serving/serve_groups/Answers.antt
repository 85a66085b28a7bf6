use Rattle.std.proofs.Common.{◌≡◌, ℕ, refl, sym, ap, subst, ◌∙◌, arith}
use Rattle.disk_images.specs.Calls.{Rose}
use Rattle.script_model.specs.Calls.{IsScript}
use Rattle.script_run.specs.Rooms.{script_in}
use Rattle.run_model.specs.Closed.{IsNameFor}
use Rattle.group_calls.specs.region_calls.Store.{disk_now, regions_of}
use Rattle.group_calls.specs.group_servers.group_lists.Lists.{AtEach}
use Rattle.group_calls.specs.Passes.{named}
use Rattle.group_calls.specs.Servers.{Servers}
use Rattle.groups_run.specs.Ended.{HaveEnded}
use Rattle.groups_run.specs.Ends.{HaveClosed}
use Rattle.groups_run.specs.Found.{faults_now, found_views, value_of, views}
use Rattle.groups_run.proofs.Assembled.{all_ended, all_held, all_refused, all_there, as_many, cause, closed_all, each_keeps, each_later, left_counts, left_found}
use Rattle.groups_run.proofs.Slots.{HasKept}
use Rattle.groups_run.proofs.serving.serve_groups.Goals as goal

pub returns-in-Err-clause-served : goal.returns-in-Err-clause-served
returns-in-Err-clause-served g c told k is = left_found g.D.Disk c.args.opened c.disks_of.result (subst (AtEach (HasKept g.D.Disk) c.args.opened) (sym c.disks_of.ensures) (all_held g.D.Disk c.args.opened)) told (c.requires.found told) k

pub returns-in-Err-clause-any_moment : goal.returns-in-Err-clause-any_moment
returns-in-Err-clause-any_moment g c told k is = each_keeps g.D.Disk c.args.opened c.disks_of.result (subst (AtEach (HasKept g.D.Disk) c.args.opened) (sym c.disks_of.ensures) (all_held g.D.Disk c.args.opened)) told (c.requires.found told) k

pub returns-in-Err-clause-count : goal.returns-in-Err-clause-count
returns-in-Err-clause-count g c = left_counts g.D.Disk c.args.opened c.disks_of.result (subst (AtEach (HasKept g.D.Disk) c.args.opened) (sym c.disks_of.ensures) (all_held g.D.Disk c.args.opened))

pub returns-in-Err-clause-as_many : goal.returns-in-Err-clause-as_many
returns-in-Err-clause-as_many g c = as_many g.D.Disk c.args.opened c.disks_of.result (subst (AtEach (HasKept g.D.Disk) c.args.opened) (sym c.disks_of.ensures) (all_held g.D.Disk c.args.opened))

pub returns-in-Err-start_groups-clause-served : goal.returns-in-Err-start_groups-clause-served
returns-in-Err-start_groups-clause-served g c told k is = left_found g.D.Disk c.args.opened c.in-Err-start_groups.field-0.disks (all_refused g.D.Disk g.N1.ServerNaming g.N1.LockNaming g.N1.ServiceNaming g.N1.VersionsNaming
    g.N2.ServerNaming g.N2.LockNaming g.N2.ServiceNaming g.N2.VersionsNaming
    g.N3.ServerNaming g.N3.LockNaming g.N3.ServiceNaming g.N3.VersionsNaming
    g.N4.ServerNaming g.N4.LockNaming g.N4.ServiceNaming g.N4.VersionsNaming
    c.args.opened c.requires.alike (script_in c.args.time (regions_of c.args.opened.first) c.args.rooms.items) refl c.requires.named_1 c.requires.named_2 c.requires.named_3 c.requires.named_4 c.requires.fits
    c.in-Err-start_groups.field-0.disk c.in-Err-start_groups.field-0.disks c.in-Err-start_groups.ensures.first c.in-Err-start_groups.ensures.second c.in-Err-start_groups.ensures.third c.in-Err-start_groups.ensures.fourth) told (c.requires.found told) k

pub returns-in-Err-start_groups-clause-any_moment : goal.returns-in-Err-start_groups-clause-any_moment
returns-in-Err-start_groups-clause-any_moment g c told k is = each_keeps g.D.Disk c.args.opened c.in-Err-start_groups.field-0.disks (all_refused g.D.Disk g.N1.ServerNaming g.N1.LockNaming g.N1.ServiceNaming g.N1.VersionsNaming
    g.N2.ServerNaming g.N2.LockNaming g.N2.ServiceNaming g.N2.VersionsNaming
    g.N3.ServerNaming g.N3.LockNaming g.N3.ServiceNaming g.N3.VersionsNaming
    g.N4.ServerNaming g.N4.LockNaming g.N4.ServiceNaming g.N4.VersionsNaming
    c.args.opened c.requires.alike (script_in c.args.time (regions_of c.args.opened.first) c.args.rooms.items) refl c.requires.named_1 c.requires.named_2 c.requires.named_3 c.requires.named_4 c.requires.fits
    c.in-Err-start_groups.field-0.disk c.in-Err-start_groups.field-0.disks c.in-Err-start_groups.ensures.first c.in-Err-start_groups.ensures.second c.in-Err-start_groups.ensures.third c.in-Err-start_groups.ensures.fourth) told (c.requires.found told) k

pub returns-in-Err-start_groups-clause-count : goal.returns-in-Err-start_groups-clause-count
returns-in-Err-start_groups-clause-count g c = left_counts g.D.Disk c.args.opened c.in-Err-start_groups.field-0.disks (all_refused g.D.Disk g.N1.ServerNaming g.N1.LockNaming g.N1.ServiceNaming g.N1.VersionsNaming
    g.N2.ServerNaming g.N2.LockNaming g.N2.ServiceNaming g.N2.VersionsNaming
    g.N3.ServerNaming g.N3.LockNaming g.N3.ServiceNaming g.N3.VersionsNaming
    g.N4.ServerNaming g.N4.LockNaming g.N4.ServiceNaming g.N4.VersionsNaming
    c.args.opened c.requires.alike (script_in c.args.time (regions_of c.args.opened.first) c.args.rooms.items) refl c.requires.named_1 c.requires.named_2 c.requires.named_3 c.requires.named_4 c.requires.fits
    c.in-Err-start_groups.field-0.disk c.in-Err-start_groups.field-0.disks c.in-Err-start_groups.ensures.first c.in-Err-start_groups.ensures.second c.in-Err-start_groups.ensures.third c.in-Err-start_groups.ensures.fourth)

pub returns-in-Err-start_groups-clause-as_many : goal.returns-in-Err-start_groups-clause-as_many
returns-in-Err-start_groups-clause-as_many g c = as_many g.D.Disk c.args.opened c.in-Err-start_groups.field-0.disks (all_refused g.D.Disk g.N1.ServerNaming g.N1.LockNaming g.N1.ServiceNaming g.N1.VersionsNaming
    g.N2.ServerNaming g.N2.LockNaming g.N2.ServiceNaming g.N2.VersionsNaming
    g.N3.ServerNaming g.N3.LockNaming g.N3.ServiceNaming g.N3.VersionsNaming
    g.N4.ServerNaming g.N4.LockNaming g.N4.ServiceNaming g.N4.VersionsNaming
    c.args.opened c.requires.alike (script_in c.args.time (regions_of c.args.opened.first) c.args.rooms.items) refl c.requires.named_1 c.requires.named_2 c.requires.named_3 c.requires.named_4 c.requires.fits
    c.in-Err-start_groups.field-0.disk c.in-Err-start_groups.field-0.disks c.in-Err-start_groups.ensures.first c.in-Err-start_groups.ensures.second c.in-Err-start_groups.ensures.third c.in-Err-start_groups.ensures.fourth)

pub run_started-closed-requires-clause-script : goal.run_started-closed-requires-clause-script
run_started-closed-requires-clause-script g c κs within = subst (λ n. IsScript (script_in c.args.time n c.args.rooms.items)) (sym (c.requires.fits 1).regions) c.requires.script

pub run_started-closed-requires-clause-few : goal.run_started-closed-requires-clause-few
run_started-closed-requires-clause-few g c κs within = sym (c.requires.named_1.name.handlers_are ∙ c.requires.few)

pub run_started-closed-requires-clause-fits : goal.run_started-closed-requires-clause-fits
run_started-closed-requires-clause-fits g c κs within k = subst (λ n. IsNameFor (script_in c.args.time n c.args.rooms.items) ((named g.N1.ServerNaming.name g.N2.ServerNaming.name g.N3.ServerNaming.name g.N4.ServerNaming.name) k)) (sym (c.requires.fits 1).regions) (c.requires.fits k)

pub run_started-closed-requires-clause-handlers : goal.run_started-closed-requires-clause-handlers
run_started-closed-requires-clause-handlers g c κs within = (c.in-Ok.ensures.handlers.0, omega (arith, c.in-Ok.ensures.handlers.1, c.len.ensures))

pub run_started-closed-requires-clause-replies : goal.run_started-closed-requires-clause-replies
run_started-closed-requires-clause-replies g c κs within = (c.in-Ok.ensures.replies.0, omega (arith, c.in-Ok.ensures.replies.1, c.len.ensures))

pub run_started-closed-requires-clause-seats : goal.run_started-closed-requires-clause-seats
run_started-closed-requires-clause-seats g c κs within = c.in-Ok.ensures.seats

pub run_started-closed-requires-clause-passes : goal.run_started-closed-requires-clause-passes
run_started-closed-requires-clause-passes g c κs within = c.in-Ok-start_groups.ensures.passes

pub run_started-closed-requires-clause-helpers : goal.run_started-closed-requires-clause-helpers
run_started-closed-requires-clause-helpers g c κs within = c.in-Ok-start_groups.ensures.helpers

pub run_started-closed-requires-clause-servers : goal.run_started-closed-requires-clause-servers
run_started-closed-requires-clause-servers g c κs within = all_there g.D.Disk c.args.opened c.in-Ok-start_groups.started.groups c.in-Ok-start_groups.ensures.servers

pub returns-in-None-clause-served : goal.returns-in-None-clause-served
returns-in-None-clause-served g c told k is = left_found g.D.Disk c.args.opened c.run_started-closed.result.closed.disks (all_ended g.D.Disk g.N1.ServerNaming g.N1.LockNaming g.N1.ServiceNaming g.N1.VersionsNaming
    g.N2.ServerNaming g.N2.LockNaming g.N2.ServiceNaming g.N2.VersionsNaming
    g.N3.ServerNaming g.N3.LockNaming g.N3.ServiceNaming g.N3.VersionsNaming
    g.N4.ServerNaming g.N4.LockNaming g.N4.ServiceNaming g.N4.VersionsNaming
    c.args.opened c.requires.alike (script_in c.args.time (regions_of c.args.opened.first) c.args.rooms.items) refl c.requires.named_1 c.requires.named_2 c.requires.named_3 c.requires.named_4 c.requires.fits
    c.in-Ok-start_groups.started.groups c.in-Ok-start_groups.ensures.servers c.run_started-closed.result (subst (λ n. HaveEnded g.D.Disk g.N1.ServerNaming g.N1.LockNaming g.N1.ServiceNaming g.N1.VersionsNaming
    g.N2.ServerNaming g.N2.LockNaming g.N2.ServiceNaming g.N2.VersionsNaming
    g.N3.ServerNaming g.N3.LockNaming g.N3.ServiceNaming g.N3.VersionsNaming
    g.N4.ServerNaming g.N4.LockNaming g.N4.ServiceNaming g.N4.VersionsNaming c.in-Ok-start_groups.started.groups (named g.N1.ServerNaming.name g.N2.ServerNaming.name g.N3.ServerNaming.name g.N4.ServerNaming.name) (script_in c.args.time n c.args.rooms.items) c.run_started-closed.result) (c.requires.fits 1).regions c.run_started-closed.ensures)) told (c.requires.found told) k

pub returns-in-None-clause-any_moment : goal.returns-in-None-clause-any_moment
returns-in-None-clause-any_moment g c told k is = each_keeps g.D.Disk c.args.opened c.run_started-closed.result.closed.disks (all_ended g.D.Disk g.N1.ServerNaming g.N1.LockNaming g.N1.ServiceNaming g.N1.VersionsNaming
    g.N2.ServerNaming g.N2.LockNaming g.N2.ServiceNaming g.N2.VersionsNaming
    g.N3.ServerNaming g.N3.LockNaming g.N3.ServiceNaming g.N3.VersionsNaming
    g.N4.ServerNaming g.N4.LockNaming g.N4.ServiceNaming g.N4.VersionsNaming
    c.args.opened c.requires.alike (script_in c.args.time (regions_of c.args.opened.first) c.args.rooms.items) refl c.requires.named_1 c.requires.named_2 c.requires.named_3 c.requires.named_4 c.requires.fits
    c.in-Ok-start_groups.started.groups c.in-Ok-start_groups.ensures.servers c.run_started-closed.result (subst (λ n. HaveEnded g.D.Disk g.N1.ServerNaming g.N1.LockNaming g.N1.ServiceNaming g.N1.VersionsNaming
    g.N2.ServerNaming g.N2.LockNaming g.N2.ServiceNaming g.N2.VersionsNaming
    g.N3.ServerNaming g.N3.LockNaming g.N3.ServiceNaming g.N3.VersionsNaming
    g.N4.ServerNaming g.N4.LockNaming g.N4.ServiceNaming g.N4.VersionsNaming c.in-Ok-start_groups.started.groups (named g.N1.ServerNaming.name g.N2.ServerNaming.name g.N3.ServerNaming.name g.N4.ServerNaming.name) (script_in c.args.time n c.args.rooms.items) c.run_started-closed.result) (c.requires.fits 1).regions c.run_started-closed.ensures)) told (c.requires.found told) k

pub returns-in-None-clause-count : goal.returns-in-None-clause-count
returns-in-None-clause-count g c = left_counts g.D.Disk c.args.opened c.run_started-closed.result.closed.disks (all_ended g.D.Disk g.N1.ServerNaming g.N1.LockNaming g.N1.ServiceNaming g.N1.VersionsNaming
    g.N2.ServerNaming g.N2.LockNaming g.N2.ServiceNaming g.N2.VersionsNaming
    g.N3.ServerNaming g.N3.LockNaming g.N3.ServiceNaming g.N3.VersionsNaming
    g.N4.ServerNaming g.N4.LockNaming g.N4.ServiceNaming g.N4.VersionsNaming
    c.args.opened c.requires.alike (script_in c.args.time (regions_of c.args.opened.first) c.args.rooms.items) refl c.requires.named_1 c.requires.named_2 c.requires.named_3 c.requires.named_4 c.requires.fits
    c.in-Ok-start_groups.started.groups c.in-Ok-start_groups.ensures.servers c.run_started-closed.result (subst (λ n. HaveEnded g.D.Disk g.N1.ServerNaming g.N1.LockNaming g.N1.ServiceNaming g.N1.VersionsNaming
    g.N2.ServerNaming g.N2.LockNaming g.N2.ServiceNaming g.N2.VersionsNaming
    g.N3.ServerNaming g.N3.LockNaming g.N3.ServiceNaming g.N3.VersionsNaming
    g.N4.ServerNaming g.N4.LockNaming g.N4.ServiceNaming g.N4.VersionsNaming c.in-Ok-start_groups.started.groups (named g.N1.ServerNaming.name g.N2.ServerNaming.name g.N3.ServerNaming.name g.N4.ServerNaming.name) (script_in c.args.time n c.args.rooms.items) c.run_started-closed.result) (c.requires.fits 1).regions c.run_started-closed.ensures))

pub returns-in-None-clause-as_many : goal.returns-in-None-clause-as_many
returns-in-None-clause-as_many g c = as_many g.D.Disk c.args.opened c.run_started-closed.result.closed.disks (all_ended g.D.Disk g.N1.ServerNaming g.N1.LockNaming g.N1.ServiceNaming g.N1.VersionsNaming
    g.N2.ServerNaming g.N2.LockNaming g.N2.ServiceNaming g.N2.VersionsNaming
    g.N3.ServerNaming g.N3.LockNaming g.N3.ServiceNaming g.N3.VersionsNaming
    g.N4.ServerNaming g.N4.LockNaming g.N4.ServiceNaming g.N4.VersionsNaming
    c.args.opened c.requires.alike (script_in c.args.time (regions_of c.args.opened.first) c.args.rooms.items) refl c.requires.named_1 c.requires.named_2 c.requires.named_3 c.requires.named_4 c.requires.fits
    c.in-Ok-start_groups.started.groups c.in-Ok-start_groups.ensures.servers c.run_started-closed.result (subst (λ n. HaveEnded g.D.Disk g.N1.ServerNaming g.N1.LockNaming g.N1.ServiceNaming g.N1.VersionsNaming
    g.N2.ServerNaming g.N2.LockNaming g.N2.ServiceNaming g.N2.VersionsNaming
    g.N3.ServerNaming g.N3.LockNaming g.N3.ServiceNaming g.N3.VersionsNaming
    g.N4.ServerNaming g.N4.LockNaming g.N4.ServiceNaming g.N4.VersionsNaming c.in-Ok-start_groups.started.groups (named g.N1.ServerNaming.name g.N2.ServerNaming.name g.N3.ServerNaming.name g.N4.ServerNaming.name) (script_in c.args.time n c.args.rooms.items) c.run_started-closed.result) (c.requires.fits 1).regions c.run_started-closed.ensures))

pub returns-in-Some-clause-served : goal.returns-in-Some-clause-served
returns-in-Some-clause-served g c told =
    subst (λ n. HaveClosed n (script_in c.args.time (regions_of c.args.opened.first) c.args.rooms.items) (found_views g.D.Disk.view c.args.opened) (views g.D.Disk.view c.run_started-closed.result.closed.disks)
    (λ k. Rose (faults_now g.D.Disk.faults c.args.opened k) (g.D.Disk.faults (value_of c.run_started-closed.result.closed.disks k))) c.in-Some.regions.items c.run_started-closed.result.replies.items
    c.run_started-closed.result.spent c.run_started-closed.result.closed.broken) c.in-Ok-start_groups.ensures.servers.count
    (closed_all g.D.Disk g.N1.ServerNaming g.N1.LockNaming g.N1.ServiceNaming g.N1.VersionsNaming
    g.N2.ServerNaming g.N2.LockNaming g.N2.ServiceNaming g.N2.VersionsNaming
    g.N3.ServerNaming g.N3.LockNaming g.N3.ServiceNaming g.N3.VersionsNaming
    g.N4.ServerNaming g.N4.LockNaming g.N4.ServiceNaming g.N4.VersionsNaming
    c.args.opened c.requires.alike (script_in c.args.time (regions_of c.args.opened.first) c.args.rooms.items) refl c.requires.named_1 c.requires.named_2 c.requires.named_3 c.requires.named_4 c.requires.fits
    c.in-Ok-start_groups.started.groups c.in-Ok-start_groups.ensures.servers c.run_started-closed.result (subst (λ n. HaveEnded g.D.Disk g.N1.ServerNaming g.N1.LockNaming g.N1.ServiceNaming g.N1.VersionsNaming
    g.N2.ServerNaming g.N2.LockNaming g.N2.ServiceNaming g.N2.VersionsNaming
    g.N3.ServerNaming g.N3.LockNaming g.N3.ServiceNaming g.N3.VersionsNaming
    g.N4.ServerNaming g.N4.LockNaming g.N4.ServiceNaming g.N4.VersionsNaming c.in-Ok-start_groups.started.groups (named g.N1.ServerNaming.name g.N2.ServerNaming.name g.N3.ServerNaming.name g.N4.ServerNaming.name) (script_in c.args.time n c.args.rooms.items) c.run_started-closed.result) (c.requires.fits 1).regions c.run_started-closed.ensures) told (c.requires.found told) c.requires.script c.in-Some.regions c.in-Some.is)

pub returns-in-Some-clause-any_moment : goal.returns-in-Some-clause-any_moment
returns-in-Some-clause-any_moment g c told k is = each_keeps g.D.Disk c.args.opened c.run_started-closed.result.closed.disks (all_ended g.D.Disk g.N1.ServerNaming g.N1.LockNaming g.N1.ServiceNaming g.N1.VersionsNaming
    g.N2.ServerNaming g.N2.LockNaming g.N2.ServiceNaming g.N2.VersionsNaming
    g.N3.ServerNaming g.N3.LockNaming g.N3.ServiceNaming g.N3.VersionsNaming
    g.N4.ServerNaming g.N4.LockNaming g.N4.ServiceNaming g.N4.VersionsNaming
    c.args.opened c.requires.alike (script_in c.args.time (regions_of c.args.opened.first) c.args.rooms.items) refl c.requires.named_1 c.requires.named_2 c.requires.named_3 c.requires.named_4 c.requires.fits
    c.in-Ok-start_groups.started.groups c.in-Ok-start_groups.ensures.servers c.run_started-closed.result (subst (λ n. HaveEnded g.D.Disk g.N1.ServerNaming g.N1.LockNaming g.N1.ServiceNaming g.N1.VersionsNaming
    g.N2.ServerNaming g.N2.LockNaming g.N2.ServiceNaming g.N2.VersionsNaming
    g.N3.ServerNaming g.N3.LockNaming g.N3.ServiceNaming g.N3.VersionsNaming
    g.N4.ServerNaming g.N4.LockNaming g.N4.ServiceNaming g.N4.VersionsNaming c.in-Ok-start_groups.started.groups (named g.N1.ServerNaming.name g.N2.ServerNaming.name g.N3.ServerNaming.name g.N4.ServerNaming.name) (script_in c.args.time n c.args.rooms.items) c.run_started-closed.result) (c.requires.fits 1).regions c.run_started-closed.ensures)) told (c.requires.found told) k

pub returns-in-Some-clause-count : goal.returns-in-Some-clause-count
returns-in-Some-clause-count g c = record {
  later = each_later g.D.Disk c.args.opened c.run_started-closed.result.closed.disks (all_ended g.D.Disk g.N1.ServerNaming g.N1.LockNaming g.N1.ServiceNaming g.N1.VersionsNaming
      g.N2.ServerNaming g.N2.LockNaming g.N2.ServiceNaming g.N2.VersionsNaming
      g.N3.ServerNaming g.N3.LockNaming g.N3.ServiceNaming g.N3.VersionsNaming
      g.N4.ServerNaming g.N4.LockNaming g.N4.ServiceNaming g.N4.VersionsNaming
      c.args.opened c.requires.alike (script_in c.args.time (regions_of c.args.opened.first) c.args.rooms.items) refl c.requires.named_1 c.requires.named_2 c.requires.named_3 c.requires.named_4 c.requires.fits
      c.in-Ok-start_groups.started.groups c.in-Ok-start_groups.ensures.servers c.run_started-closed.result (subst (λ n. HaveEnded g.D.Disk g.N1.ServerNaming g.N1.LockNaming g.N1.ServiceNaming g.N1.VersionsNaming
      g.N2.ServerNaming g.N2.LockNaming g.N2.ServiceNaming g.N2.VersionsNaming
      g.N3.ServerNaming g.N3.LockNaming g.N3.ServiceNaming g.N3.VersionsNaming
      g.N4.ServerNaming g.N4.LockNaming g.N4.ServiceNaming g.N4.VersionsNaming c.in-Ok-start_groups.started.groups (named g.N1.ServerNaming.name g.N2.ServerNaming.name g.N3.ServerNaming.name g.N4.ServerNaming.name) (script_in c.args.time n c.args.rooms.items) c.run_started-closed.result) (c.requires.fits 1).regions c.run_started-closed.ensures));
  cause = cause g.D.Disk g.N1.ServerNaming g.N1.LockNaming g.N1.ServiceNaming g.N1.VersionsNaming
      g.N2.ServerNaming g.N2.LockNaming g.N2.ServiceNaming g.N2.VersionsNaming
      g.N3.ServerNaming g.N3.LockNaming g.N3.ServiceNaming g.N3.VersionsNaming
      g.N4.ServerNaming g.N4.LockNaming g.N4.ServiceNaming g.N4.VersionsNaming
      c.args.opened c.requires.alike (script_in c.args.time (regions_of c.args.opened.first) c.args.rooms.items) refl c.requires.named_1 c.requires.named_2 c.requires.named_3 c.requires.named_4 c.requires.fits
      c.in-Ok-start_groups.started.groups c.in-Ok-start_groups.ensures.servers c.run_started-closed.result (subst (λ n. HaveEnded g.D.Disk g.N1.ServerNaming g.N1.LockNaming g.N1.ServiceNaming g.N1.VersionsNaming
      g.N2.ServerNaming g.N2.LockNaming g.N2.ServiceNaming g.N2.VersionsNaming
      g.N3.ServerNaming g.N3.LockNaming g.N3.ServiceNaming g.N3.VersionsNaming
      g.N4.ServerNaming g.N4.LockNaming g.N4.ServiceNaming g.N4.VersionsNaming c.in-Ok-start_groups.started.groups (named g.N1.ServerNaming.name g.N2.ServerNaming.name g.N3.ServerNaming.name g.N4.ServerNaming.name) (script_in c.args.time n c.args.rooms.items) c.run_started-closed.result) (c.requires.fits 1).regions c.run_started-closed.ensures);
}

pub returns-in-Some-clause-as_many : goal.returns-in-Some-clause-as_many
returns-in-Some-clause-as_many g c = as_many g.D.Disk c.args.opened c.run_started-closed.result.closed.disks (all_ended g.D.Disk g.N1.ServerNaming g.N1.LockNaming g.N1.ServiceNaming g.N1.VersionsNaming
    g.N2.ServerNaming g.N2.LockNaming g.N2.ServiceNaming g.N2.VersionsNaming
    g.N3.ServerNaming g.N3.LockNaming g.N3.ServiceNaming g.N3.VersionsNaming
    g.N4.ServerNaming g.N4.LockNaming g.N4.ServiceNaming g.N4.VersionsNaming
    c.args.opened c.requires.alike (script_in c.args.time (regions_of c.args.opened.first) c.args.rooms.items) refl c.requires.named_1 c.requires.named_2 c.requires.named_3 c.requires.named_4 c.requires.fits
    c.in-Ok-start_groups.started.groups c.in-Ok-start_groups.ensures.servers c.run_started-closed.result (subst (λ n. HaveEnded g.D.Disk g.N1.ServerNaming g.N1.LockNaming g.N1.ServiceNaming g.N1.VersionsNaming
    g.N2.ServerNaming g.N2.LockNaming g.N2.ServiceNaming g.N2.VersionsNaming
    g.N3.ServerNaming g.N3.LockNaming g.N3.ServiceNaming g.N3.VersionsNaming
    g.N4.ServerNaming g.N4.LockNaming g.N4.ServiceNaming g.N4.VersionsNaming c.in-Ok-start_groups.started.groups (named g.N1.ServerNaming.name g.N2.ServerNaming.name g.N3.ServerNaming.name g.N4.ServerNaming.name) (script_in c.args.time n c.args.rooms.items) c.run_started-closed.result) (c.requires.fits 1).regions c.run_started-closed.ensures))
