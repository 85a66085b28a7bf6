use Rattle.std.proofs.Common.{◌≡◌, Err, refl}
use Rattle.log_model.specs.declared.damage.Damage.{Damage}
use Rattle.log_model.specs.Files.{IsSound}
use Rattle.log_model.specs.Damage.{IsDamage}
use Rattle.found_files.proofs.Told.{handed_on}
use Rattle.found_files.proofs.Causes.{same_cause, no_error, same_error}
use Rattle.wal_split.specs.declared.split_files.SplitFiles.{SplitFiles}
use Rattle.wal_split.specs.declared.whole.SplitReport.{SplitReport}
use Rattle.wal_split.proofs.whole.split.Goals as goal

pub returns-in-Ok-clause-cause : goal.returns-in-Ok-clause-cause
returns-in-Ok-clause-cause g c = same_cause c.split_read.ensures.cause (λ is. absurd (no_error is))

pub returns-in-Err-clause-unsound : goal.returns-in-Err-clause-unsound
returns-in-Err-clause-unsound g c told =
    let unsound = λ (d : Damage). ¬ IsSound (g.D.Disk.view c.args.disk.now).files in
    handed_on SplitFiles SplitReport unsound unsound c.in-Err.e (Err c.in-Err.e) refl refl (λ d is. is) (c.in-Err.ensures.unsound told)

pub returns-in-Err-clause-damaged : goal.returns-in-Err-clause-damaged
returns-in-Err-clause-damaged g c told =
    let u = g.D.Disk.view c.args.disk.now in
    let v = g.D.Disk.view c.split_read.new.disk in
    let hurt = λ (d : Damage). IsDamage u.files d × (v.files ≡ u.files) in
    handed_on SplitFiles SplitReport hurt hurt c.in-Err.e (Err c.in-Err.e) refl refl (λ d is. is) (c.in-Err.ensures.damaged told)

pub returns-in-Err-clause-cause : goal.returns-in-Err-clause-cause
returns-in-Err-clause-cause g c = same_cause c.in-Err.ensures.cause (λ is. same_error SplitFiles SplitReport is)
