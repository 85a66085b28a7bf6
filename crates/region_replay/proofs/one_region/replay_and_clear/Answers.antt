use Rattle.std.proofs.Common.{◌+◌, ◌∙◌, refl, sym, ap, subst}
use Rattle.log_model.specs.Files.{Files, content}
use Rattle.disk_images.proofs.Moments.{joined}
use Rattle.file_base.specs.declared.error.FileRefusal.TheVariants as refusals
use Rattle.recovery_laws.specs.Alike.{AllAlike}
use Rattle.found_files.proofs.Causes.{same_cause, cause_since, no_error, error_of}
use Rattle.region_replay.specs.Ready.{IsOf, Found}
use Rattle.region_replay.specs.Stored.{StoresReplayed}
use Rattle.region_replay.proofs.one_region.replay_and_clear.Goals as goal

pub returns-in-Ok-clause-any_moment : goal.returns-in-Ok-clause-any_moment
returns-in-Ok-clause-any_moment g c told base held found =
    let one = c.replay_region.ensures.any_moment told base held found in
    let two = c.clear.ensures.any_moment told base (c.in_ok-replayed.ensures.held told base held found) in
    (one.0 + 1, joined (AllAlike base) one.0 1 (g.D.Disk.view c.args.disk.now) (g.D.Disk.view c.replay_region.new.disk) (g.D.Disk.view c.clear.new.disk) one.1 two)

pub returns-in-Err-clause-any_moment : goal.returns-in-Err-clause-any_moment
returns-in-Err-clause-any_moment g c told base held found =
    let one = c.replay_region.ensures.any_moment told base held found in
    let two = c.clear.ensures.any_moment told base (c.in_ok-replayed.ensures.held told base held found) in
    (one.0 + 1, joined (AllAlike base) one.0 1 (g.D.Disk.view c.args.disk.now) (g.D.Disk.view c.replay_region.new.disk) (g.D.Disk.view c.clear.new.disk) one.1 two)

pub returns-in-Ok-clause-held : goal.returns-in-Ok-clause-held
returns-in-Ok-clause-held g c told base held found = c.clear.ensures.held told base (c.in_ok-replayed.ensures.held told base held found)

pub returns-in-Ok-clause-replayed : goal.returns-in-Ok-clause-replayed
returns-in-Ok-clause-replayed g c told base held found =
    subst (λ (f : Files). IsOf (g.D.Disk.view c.args.disk.now).files f c.args.found.region c.in_ok-replayed.replayed) (sym (c.clear.ensures.files told)) (c.in_ok-replayed.ensures.replayed told base held found)

pub returns-in-Ok-clause-stored : goal.returns-in-Ok-clause-stored
returns-in-Ok-clause-stored g c told found =
    subst (λ (f : Files). StoresReplayed (g.D.Disk.view c.args.disk.now).files f c.args.found.region c.in_ok-replayed.replayed) (sym (c.clear.ensures.files told)) (c.in_ok-replayed.ensures.stored told found)

pub returns-in-Ok-clause-no_edits : goal.returns-in-Ok-clause-no_edits
returns-in-Ok-clause-no_edits g c told m has = ap (λ (f : Files). content f m) (c.clear.ensures.files told) ∙ c.in_ok-replayed.ensures.no_edits told m has

pub returns-in-Ok-clause-others : goal.returns-in-Ok-clause-others
returns-in-Ok-clause-others g c told m not other = ap (λ (f : Files). content f m) (c.clear.ensures.files told) ∙ c.in_ok-replayed.ensures.others told m not other

pub returns-in_err-replayed-clause-cause : goal.returns-in_err-replayed-clause-cause
returns-in_err-replayed-clause-cause g c = same_cause c.in_err-replayed.ensures.cause (λ is. error_of Found c.in_err-replayed.field-0.0 refusals.DiskFault c.from_residual.result c.from_residual.ensures.1 is)

pub returns-in-Ok-clause-cause : goal.returns-in-Ok-clause-cause
returns-in-Ok-clause-cause g c = cause_since c.clear.ensures.cause c.replay_region.ensures.cause.later (λ is. absurd (no_error is))

pub returns-in-Err-clause-cause : goal.returns-in-Err-clause-cause
returns-in-Err-clause-cause g c = cause_since c.in-Err.ensures.cause c.replay_region.ensures.cause.later (λ is. refl)
