use Rattle.std.proofs.Common.{IsTrue, List, sym, ap, subst}
use Rattle.std.specs.Prelude.{Err}
use Rattle.disk_images.proofs.Moments.{at_once}
use Rattle.file_base.specs.declared.error.FileRefusal.{FileRefusal}
use Rattle.recovery_laws.specs.Alike.{AllAlike}
use Rattle.found_files.proofs.Causes.{same_cause, no_error}
use Rattle.region_replay.specs.Opened.{AreOf, AreStoresReplayed}
use Rattle.region_replay.specs.Ready.{Found}
use Rattle.region_replay.proofs.AllFound.{each_in_order, are_apart, are_all_found, one_above, all_told, all_stored}
use Rattle.region_replay.proofs.recovering.recover_split.Goals as goal

pub returns-in_err-regions-clause-any_moment : goal.returns-in_err-regions-clause-any_moment
returns-in_err-regions-clause-any_moment g c told =
    let u = g.D.Disk.view c.args.disk.now in
    (0, at_once (AllAlike u.files) u (c.requires.split told).held.alike)

pub replay_all-requires-clause-order : goal.replay_all-requires-clause-order
replay_all-requires-clause-order g c = each_in_order (IsTrue g.D.Disk.told) c.args.split c.requires.range c.in_ok-regions.regions.items c.in_ok-regions.ensures (λ told. (c.requires.left told).names_rise)

pub replay_all-requires-clause-apart : goal.replay_all-requires-clause-apart
replay_all-requires-clause-apart g c = are_apart (IsTrue g.D.Disk.told) c.args.split c.requires.range c.in_ok-regions.regions.items c.in_ok-regions.ensures

pub replay_all-requires-clause-found : goal.replay_all-requires-clause-found
replay_all-requires-clause-found g c told =
    let u = g.D.Disk.view c.args.disk.now in
    ∣ (u.files, (c.requires.split told).held, (are_all_found (IsTrue g.D.Disk.told) c.args.split c.requires.range c.in_ok-regions.regions.items c.in_ok-regions.ensures u.files (c.requires.left told)).found) ∣₁

pub returns-in-Ok-clause-any_moment : goal.returns-in-Ok-clause-any_moment
returns-in-Ok-clause-any_moment g c told =
    let u = g.D.Disk.view c.args.disk.now in
    let held = (c.requires.split told).held in
    let found = are_all_found (IsTrue g.D.Disk.told) c.args.split c.requires.range c.in_ok-regions.regions.items c.in_ok-regions.ensures u.files (c.requires.left told) in
    c.replay_all.ensures.any_moment told u.files held found

pub returns-in-Err-Memory-clause-any_moment : goal.returns-in-Err-Memory-clause-any_moment
returns-in-Err-Memory-clause-any_moment g c told =
    let u = g.D.Disk.view c.args.disk.now in
    let held = (c.requires.split told).held in
    let found = are_all_found (IsTrue g.D.Disk.told) c.args.split c.requires.range c.in_ok-regions.regions.items c.in_ok-regions.ensures u.files (c.requires.left told) in
    c.replay_all.ensures.any_moment told u.files held found

pub returns-in-Err-DiskFault-clause-any_moment : goal.returns-in-Err-DiskFault-clause-any_moment
returns-in-Err-DiskFault-clause-any_moment g c told =
    let u = g.D.Disk.view c.args.disk.now in
    let held = (c.requires.split told).held in
    let found = are_all_found (IsTrue g.D.Disk.told) c.args.split c.requires.range c.in_ok-regions.regions.items c.in_ok-regions.ensures u.files (c.requires.left told) in
    c.replay_all.ensures.any_moment told u.files held found

pub returns-in-Ok-clause-ready : goal.returns-in-Ok-clause-ready
returns-in-Ok-clause-ready g c told =
    let u = g.D.Disk.view c.args.disk.now in
    let held = (c.requires.split told).held in
    let found = are_all_found (IsTrue g.D.Disk.told) c.args.split c.requires.range c.in_ok-regions.regions.items c.in_ok-regions.ensures u.files (c.requires.left told) in
    c.in-Ok.ensures.ready told u.files held found

pub returns-in-Ok-clause-alike : goal.returns-in-Ok-clause-alike
returns-in-Ok-clause-alike g c told =
    let u = g.D.Disk.view c.args.disk.now in
    let held = (c.requires.split told).held in
    let found = are_all_found (IsTrue g.D.Disk.told) c.args.split c.requires.range c.in_ok-regions.regions.items c.in_ok-regions.ensures u.files (c.requires.left told) in
    c.in-Ok.ensures.alike told u.files held found

pub returns-in-Ok-clause-names : goal.returns-in-Ok-clause-names
returns-in-Ok-clause-names g c told n bound low m here =
    let u = g.D.Disk.view c.args.disk.now in
    let held = (c.requires.split told).held in
    let found = are_all_found (IsTrue g.D.Disk.told) c.args.split c.requires.range c.in_ok-regions.regions.items c.in_ok-regions.ensures u.files (c.requires.left told) in
    one_above (IsTrue g.D.Disk.told) c.args.split c.requires.range c.in_ok-regions.regions.items c.in_ok-regions.ensures u.files (g.D.Disk.view c.replay_all.new.disk).files (c.in-Ok.ensures.names told u.files held found) n bound low m here

pub returns-in-Ok-clause-recovered : goal.returns-in-Ok-clause-recovered
returns-in-Ok-clause-recovered g c told old alike =
    let u = g.D.Disk.view c.args.disk.now in
    let held = (c.requires.split told).held in
    let found = are_all_found (IsTrue g.D.Disk.told) c.args.split c.requires.range c.in_ok-regions.regions.items c.in_ok-regions.ensures u.files (c.requires.left told) in
    let v = g.D.Disk.view c.replay_all.new.disk in
    subst (λ (ys : List Found). AreOf old v.files 1 ys) (sym c.of.ensures) (all_told (IsTrue g.D.Disk.told) c.args.split c.requires.range c.in_ok-regions.regions.items c.in_ok-regions.ensures old u.files v.files alike c.in-Ok.replayed.items (c.in-Ok.ensures.replayed told u.files held found))

pub returns-in-Ok-clause-stored : goal.returns-in-Ok-clause-stored
returns-in-Ok-clause-stored g c told old stand =
    let u = g.D.Disk.view c.args.disk.now in
    let held = (c.requires.split told).held in
    let found = are_all_found (IsTrue g.D.Disk.told) c.args.split c.requires.range c.in_ok-regions.regions.items c.in_ok-regions.ensures u.files (c.requires.left told) in
    let v = g.D.Disk.view c.replay_all.new.disk in
    subst (λ (ys : List Found). AreStoresReplayed old v.files 1 ys) (sym c.of.ensures) (all_stored (IsTrue g.D.Disk.told) c.args.split c.requires.range c.in_ok-regions.regions.items c.in_ok-regions.ensures old u.files v.files stand c.in-Ok.replayed.items (c.in-Ok.ensures.stored told u.files held found))

pub returns-in-Ok-clause-olds : goal.returns-in-Ok-clause-olds
returns-in-Ok-clause-olds g c told m old = c.in-Ok.ensures.olds told m old

pub returns-in-Ok-clause-cause : goal.returns-in-Ok-clause-cause
returns-in-Ok-clause-cause g c = same_cause c.replay_all.ensures.cause (λ is. absurd (no_error is))

pub returns-in-Err-DiskFault-clause-cause : goal.returns-in-Err-DiskFault-clause-cause
returns-in-Err-DiskFault-clause-cause g c = same_cause c.in-Err-DiskFault.ensures.cause (λ is. ap (λ (e : FileRefusal). Err e) c.in-Err-DiskFault.field-0-is)
