use Rattle.std.proofs.Common.{◌≡◌, ◌+◌, IsTrue, sym, subst}
use Rattle.std.specs.Prelude.{IfOk, OnOk}
use Rattle.std.proofs.lemmas.Result.{on_ok_weaker}
use Rattle.log_model.specs.declared.name.Name.{Name}
use Rattle.log_model.specs.declared.name.NameKind.TheVariants as kinds
use Rattle.log_model.specs.Files.{Files, content, IsPresent}
use Rattle.disk_images.specs.Crash.{IsImageNow}
use Rattle.disk_images.proofs.Moments.{joined, weaker}
use Rattle.recovery_laws.specs.Alike.{AllAlike}
use Rattle.found_files.specs.declared.found.RegionFinding.{RegionFinding}
use Rattle.found_files.specs.OfRegion.{IsDamageIn}
use Rattle.found_files.proofs.Sound.{of_same_files}
use Rattle.found_files.proofs.Told.{if_damage}
use Rattle.found_files.proofs.Causes.{same_cause, cause_since, same_error}
use Rattle.wal_split.specs.Moments.{During}
use Rattle.region_replay.specs.Names.{IsElsewhere}
use Rattle.region_replay.specs.Ready.{Found, IsOf}
use Rattle.region_replay.specs.Stored.{StoresReplayed}
use Rattle.region_replay.specs.Opened.{AtMostOneHigher}
use Rattle.region_replay.proofs.StillSplit.{split_watched, same_names, refused_too}
use Rattle.region_replay.proofs.one_region.replay.Goals as goal

pub replay_read-requires-clause-stores : goal.replay_read-requires-clause-stores
replay_read-requires-clause-stores g c told m store gone = c.requires.stores told m store ((c.find_region.ensures.watches told).1.gone m gone)

pub replay_read-requires-clause-names : goal.replay_read-requires-clause-names
replay_read-requires-clause-names g c =
    let u = g.D.Disk.view c.args.disk.now in
    let v = g.D.Disk.view c.find_region.new.disk in
    same_names (IsTrue g.D.Disk.told) u.files v.files (λ told. sym (c.find_region.ensures.watches told).1.files) c.args.region c.in-Ok.found.names.items c.in-Ok.ensures.names

pub replay_read-requires-clause-read : goal.replay_read-requires-clause-read
replay_read-requires-clause-read g c =
    let u = g.D.Disk.view c.args.disk.now in
    let v = g.D.Disk.view c.find_region.new.disk in
    of_same_files (IsTrue g.D.Disk.told) u.files v.files (λ told. sym (c.find_region.ensures.watches told).1.files) c.in-Ok.found.names.items c.in-Ok.found.files.entries.items c.in-Ok.found.files.stores.items c.in-Ok.ensures.read

pub returns-in-Ok-clause-any_moment : goal.returns-in-Ok-clause-any_moment
returns-in-Ok-clause-any_moment g c told split =
    let u = g.D.Disk.view c.args.disk.now in
    let v = g.D.Disk.view c.find_region.new.disk in
    let watches = c.find_region.ensures.watches told in
    let w = g.D.Disk.view c.replay_read.new.disk in
    let first = weaker (IsImageNow u) (AllAlike u.files) watches.0 u v split.held.alike watches.1.moments in
    let second : During (AllAlike u.files) v w = subst (λ (f : Files). During (AllAlike f) v w) watches.1.files (c.replay_read.ensures.any_moment told (split_watched u v watches split)) in
    (watches.0 + second.0, joined (AllAlike u.files) watches.0 second.0 u v w first second.1)

pub returns-in-Err-clause-any_moment : goal.returns-in-Err-clause-any_moment
returns-in-Err-clause-any_moment g c told split =
    let u = g.D.Disk.view c.args.disk.now in
    let v = g.D.Disk.view c.find_region.new.disk in
    let watches = c.find_region.ensures.watches told in
    (watches.0, weaker (IsImageNow u) (AllAlike u.files) watches.0 u v split.held.alike watches.1.moments)

pub returns-in-Ok-clause-split : goal.returns-in-Ok-clause-split
returns-in-Ok-clause-split g c told split =
    let u = g.D.Disk.view c.args.disk.now in
    let v = g.D.Disk.view c.find_region.new.disk in
    let watches = c.find_region.ensures.watches told in
    c.replay_read.ensures.split told (split_watched u v watches split)

pub returns-in-Ok-clause-names : goal.returns-in-Ok-clause-names
returns-in-Ok-clause-names g c told split =
    let u = g.D.Disk.view c.args.disk.now in
    let v = g.D.Disk.view c.find_region.new.disk in
    let watches = c.find_region.ensures.watches told in
    let w = g.D.Disk.view c.replay_read.new.disk in
    subst (λ (f : Files). OnOk c.replay_read.result (AtMostOneHigher f w.files)) watches.1.files (c.replay_read.ensures.names told (split_watched u v watches split))

pub returns-in-Ok-clause-replayed : goal.returns-in-Ok-clause-replayed
returns-in-Ok-clause-replayed g c told split =
    let u = g.D.Disk.view c.args.disk.now in
    let v = g.D.Disk.view c.find_region.new.disk in
    let watches = c.find_region.ensures.watches told in
    let w = g.D.Disk.view c.replay_read.new.disk in
    subst (λ (f : Files). IfOk c.replay_read.result (λ x. IsOf f w.files c.args.region x)) watches.1.files (c.replay_read.ensures.replayed told (split_watched u v watches split))

pub returns-in-Ok-clause-stored : goal.returns-in-Ok-clause-stored
returns-in-Ok-clause-stored g c told split =
    let u = g.D.Disk.view c.args.disk.now in
    let v = g.D.Disk.view c.find_region.new.disk in
    let watches = c.find_region.ensures.watches told in
    let w = g.D.Disk.view c.replay_read.new.disk in
    subst (λ (f : Files). IfOk c.replay_read.result (λ x. StoresReplayed f w.files c.args.region x)) watches.1.files (c.replay_read.ensures.stored told (split_watched u v watches split))

pub returns-in-Ok-clause-others : goal.returns-in-Ok-clause-others
returns-in-Ok-clause-others g c told =
    let u = g.D.Disk.view c.args.disk.now in
    let v = g.D.Disk.view c.find_region.new.disk in
    let watches = c.find_region.ensures.watches told in
    let w = g.D.Disk.view c.replay_read.new.disk in
    subst (λ (f : Files). OnOk c.replay_read.result ((m : Name) → IsElsewhere c.args.region m → content w.files m ≡ content f m)) watches.1.files (c.replay_read.ensures.others told)

pub returns-in-Ok-clause-stay : goal.returns-in-Ok-clause-stay
returns-in-Ok-clause-stay g c told =
    let u = g.D.Disk.view c.args.disk.now in
    let v = g.D.Disk.view c.find_region.new.disk in
    let watches = c.find_region.ensures.watches told in
    let w = g.D.Disk.view c.replay_read.new.disk in
    subst (λ (f : Files). OnOk c.replay_read.result ((m : Name) → m.kind ≡ kinds.Store → IsPresent f m → content w.files m ≡ content f m)) watches.1.files (c.replay_read.ensures.stay told)

pub returns-in-Ok-clause-sound : goal.returns-in-Ok-clause-sound
returns-in-Ok-clause-sound g c told = on_ok_weaker c.replay_read.result (λ none_gone. c.in-Ok.ensures.sound told) (c.replay_read.ensures.none_gone told)

pub returns-in-Ok-clause-damaged : goal.returns-in-Ok-clause-damaged
returns-in-Ok-clause-damaged g c told =
    let u = g.D.Disk.view c.args.disk.now in
    let w = g.D.Disk.view c.replay_read.new.disk in
    if_damage (λ d. ⊥) (λ d. IsDamageIn u.files c.args.region d × (w.files ≡ u.files)) c.replay_read.result (λ d none. absurd none) c.replay_read.ensures.undamaged

pub returns-in-Err-clause-damaged : goal.returns-in-Err-clause-damaged
returns-in-Err-clause-damaged g c told =
    let u = g.D.Disk.view c.args.disk.now in
    let v = g.D.Disk.view c.find_region.new.disk in
    let watches = c.find_region.ensures.watches told in
    refused_too RegionFinding Found (IsDamageIn u.files c.args.region) (λ d. IsDamageIn u.files c.args.region d × (v.files ≡ u.files)) c.in-Err.e (λ d h. (h, watches.1.files)) (c.in-Err.ensures.damaged told)

pub returns-in-Ok-clause-cause : goal.returns-in-Ok-clause-cause
returns-in-Ok-clause-cause g c = cause_since c.replay_read.ensures.cause c.find_region.ensures.cause.later (λ is. is)

pub returns-in-Err-clause-cause : goal.returns-in-Err-clause-cause
returns-in-Err-clause-cause g c = same_cause c.in-Err.ensures.cause (λ is. same_error RegionFinding Found is)
