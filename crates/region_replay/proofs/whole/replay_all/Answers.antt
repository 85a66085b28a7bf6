use Rattle.std.proofs.Common.{◌+◌, ◌∙◌, refl, sym, ap, subst}
use Rattle.log_model.specs.Files.{Files, content}
use Rattle.disk_images.proofs.Moments.{joined}
use Rattle.disk_images.proofs.Moments.{at_end}
use Rattle.recovery_laws.specs.Alike.{AllAlike}
use Rattle.found_files.proofs.Causes.{cause_since, no_error}
use Rattle.region_replay.specs.Whole.{AllStoresReplayed}
use Rattle.region_replay.proofs.InTurn.{none_logged, ready}
use Rattle.region_replay.proofs.whole.replay_all.Goals as goal

pub returns-in-Ok-clause-any_moment : goal.returns-in-Ok-clause-any_moment
returns-in-Ok-clause-any_moment g c told base held found =
    let one = c.replay_regions.ensures.any_moment told base held found.found in
    let two = c.clear.ensures.any_moment told base (c.in_ok-replayed.ensures.held told base held found.found) in
    (one.0 + 1, joined (AllAlike base) one.0 1 (g.D.Disk.view c.args.disk.now) (g.D.Disk.view c.replay_regions.new.disk) (g.D.Disk.view c.clear.new.disk) one.1 two)

pub returns-in-Err-clause-any_moment : goal.returns-in-Err-clause-any_moment
returns-in-Err-clause-any_moment g c told base held found =
    let one = c.replay_regions.ensures.any_moment told base held found.found in
    let two = c.clear.ensures.any_moment told base (c.in_ok-replayed.ensures.held told base held found.found) in
    (one.0 + 1, joined (AllAlike base) one.0 1 (g.D.Disk.view c.args.disk.now) (g.D.Disk.view c.replay_regions.new.disk) (g.D.Disk.view c.clear.new.disk) one.1 two)

pub returns-in-Ok-clause-alike : goal.returns-in-Ok-clause-alike
returns-in-Ok-clause-alike g c told base held found =
    let w = g.D.Disk.view c.clear.new.disk in
    at_end (AllAlike base) 1 (g.D.Disk.view c.replay_regions.new.disk) w (c.clear.ensures.any_moment told base (c.in_ok-replayed.ensures.held told base held found.found)) w.files (g.met.D.Disk.is_true c.clear.new.disk told).reads

pub returns-in-Ok-clause-ready : goal.returns-in-Ok-clause-ready
returns-in-Ok-clause-ready g c told base held found =
    let u = g.D.Disk.view c.args.disk.now in
    let v = g.D.Disk.view c.replay_regions.new.disk in
    let w = g.D.Disk.view c.clear.new.disk in
    let xs = c.args.regions.items in
    let none = c.in_ok-replayed.ensures.no_edits told base held found.found in
    let names = c.in_ok-replayed.ensures.names told base held found.found in
    ready base u v w xs c.requires.order found none names (c.clear.ensures.files told)
    (c.in-Ok.ensures.cleared told base (c.in_ok-replayed.ensures.held told base held found.found) (none_logged base u v w xs c.requires.order found none names))

pub returns-in-Ok-clause-names : goal.returns-in-Ok-clause-names
returns-in-Ok-clause-names g c told base held found m here =
    c.in_ok-replayed.ensures.names told base held found.found m (λ none. here (ap (λ (f : Files). content f m) (c.clear.ensures.files told) ∙ none))

pub returns-in-Ok-clause-stored : goal.returns-in-Ok-clause-stored
returns-in-Ok-clause-stored g c told base held found =
    subst (λ (f : Files). AllStoresReplayed (g.D.Disk.view c.args.disk.now).files f c.args.regions.items c.in_ok-replayed.replayed.items) (sym (c.clear.ensures.files told)) (c.in_ok-replayed.ensures.stored told base held found.found)

pub returns-in-Ok-clause-olds : goal.returns-in-Ok-clause-olds
returns-in-Ok-clause-olds g c told m old = ap (λ (f : Files). content f m) (c.clear.ensures.files told) ∙ c.in_ok-replayed.ensures.olds told m old

pub returns-in-Ok-clause-cause : goal.returns-in-Ok-clause-cause
returns-in-Ok-clause-cause g c = cause_since c.clear.ensures.cause c.replay_regions.ensures.cause.later (λ is. absurd (no_error is))

pub returns-in-Err-clause-cause : goal.returns-in-Err-clause-cause
returns-in-Err-clause-cause g c = cause_since c.in-Err.ensures.cause c.replay_regions.ensures.cause.later (λ is. refl)
