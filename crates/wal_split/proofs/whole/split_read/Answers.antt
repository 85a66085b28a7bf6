use Rattle.std.proofs.Common.{◌≡◌, ◌+◌, inl, inr, IsTrue, Err, refl, sym, subst}
use Rattle.std.proofs.lemmas.Result.{on_ok_weaker}
use Rattle.log_model.specs.declared.damage.Damage.{Damage}
use Rattle.log_model.specs.Files.{Files, IsSound}
use Rattle.log_model.specs.Damage.{IsDamage}
use Rattle.disk_images.specs.Crash.{IsImageNow}
use Rattle.disk_images.proofs.Moments.{joined, weaker}
use Rattle.recovery_laws.specs.Alike.{AllAlike}
use Rattle.found_files.specs.declared.found.Finding.{Finding}
use Rattle.found_files.proofs.ReadSteps.{contents_of, with_good}
use Rattle.found_files.proofs.Sound.{of_same_files}
use Rattle.found_files.proofs.Told.{if_damage, handed_on}
use Rattle.found_files.proofs.Causes.{same_cause, cause_since, same_error}
use Rattle.wal_split.specs.declared.split_files.SplitFiles.{SplitFiles}
use Rattle.wal_split.specs.Moments.{WasOrAlike}
use Rattle.wal_split.specs.Copies.{EditsCopied}
use Rattle.wal_split.specs.Left.{AtMostOneHigher}
use Rattle.wal_split.specs.Logs.{LogsAreOld}
use Rattle.wal_split.proofs.whole.split_read.Goals as goal

pub split_files-requires-clause-read : goal.split_files-requires-clause-read
split_files-requires-clause-read g c =
    let u = g.D.Disk.view c.args.disk.now in
    let v = g.D.Disk.view c.find_files.new.disk in
    let names = c.in-Ok.found.names in
    let es = c.in-Ok.found.files.entries.items in
    let ss = c.in-Ok.found.files.stores.items in
    with_good (IsTrue g.D.Disk.told) v.files names names es ss c.in-Ok.ensures.read.good
    (of_same_files (IsTrue g.D.Disk.told) u.files v.files (λ told. sym (c.find_files.ensures.watches told).1.files) names es ss (contents_of (IsTrue g.D.Disk.told) u.files names names es ss c.in-Ok.ensures.read))

pub returns-in-Ok-clause-any_moment : goal.returns-in-Ok-clause-any_moment
returns-in-Ok-clause-any_moment g c told =
    let u = g.D.Disk.view c.args.disk.now in
    let v = g.D.Disk.view c.find_files.new.disk in
    let w = g.D.Disk.view c.split_files.new.disk in
    let first = c.find_files.ensures.watches told in
    let second = c.split_files.ensures.any_moment told in (
      first.0 + second.0,
      joined (WasOrAlike u) first.0 second.0 u v w (weaker (IsImageNow u) (WasOrAlike u) first.0 u v (λ J was. inl was) first.1.moments)
          (weaker (AllAlike v.files) (WasOrAlike u) second.0 v w (λ J alike. inr (subst (λ (f : Files). AllAlike f J) first.1.files alike)) second.1),
    )

pub returns-in-Ok-clause-alike : goal.returns-in-Ok-clause-alike
returns-in-Ok-clause-alike g c told =
    let w = g.D.Disk.view c.split_files.new.disk in
    on_ok_weaker c.split_files.result (λ alike. subst (λ (f : Files). AllAlike f w.files) (c.find_files.ensures.watches told).1.files alike) (c.split_files.ensures.alike told)

pub returns-in-Ok-clause-edits : goal.returns-in-Ok-clause-edits
returns-in-Ok-clause-edits g c told =
    let w = g.D.Disk.view c.split_files.new.disk in
    on_ok_weaker c.split_files.result (λ edits. subst (λ (f : Files). EditsCopied f w.files) (c.find_files.ensures.watches told).1.files edits) (c.split_files.ensures.edits told)

pub returns-in-Ok-clause-names : goal.returns-in-Ok-clause-names
returns-in-Ok-clause-names g c told =
    let w = g.D.Disk.view c.split_files.new.disk in
    on_ok_weaker c.split_files.result (λ higher. subst (λ (f : Files). AtMostOneHigher f w.files) (c.find_files.ensures.watches told).1.files higher) (c.split_files.ensures.names told)

pub returns-in-Ok-clause-olds : goal.returns-in-Ok-clause-olds
returns-in-Ok-clause-olds g c told =
    let w = g.D.Disk.view c.split_files.new.disk in
    on_ok_weaker c.split_files.result (λ olds. subst (λ (f : Files). LogsAreOld f w.files) (c.find_files.ensures.watches told).1.files olds) (c.split_files.ensures.olds told)

pub returns-in-Ok-clause-sound : goal.returns-in-Ok-clause-sound
returns-in-Ok-clause-sound g c told = on_ok_weaker c.split_files.result (λ alike. c.in-Ok.ensures.sound told) (c.split_files.ensures.alike told)

pub returns-in-Ok-clause-unsound : goal.returns-in-Ok-clause-unsound
returns-in-Ok-clause-unsound g c told =
    if_damage (λ d. ⊥) (λ d. ¬ IsSound (g.D.Disk.view c.args.disk.now).files) c.split_files.result (λ d none. absurd none) c.split_files.ensures.undamaged

pub returns-in-Ok-clause-damaged : goal.returns-in-Ok-clause-damaged
returns-in-Ok-clause-damaged g c told =
    let u = g.D.Disk.view c.args.disk.now in
    let w = g.D.Disk.view c.split_files.new.disk in
    if_damage (λ d. ⊥) (λ d. IsDamage u.files d × (w.files ≡ u.files)) c.split_files.result (λ d none. absurd none) c.split_files.ensures.undamaged

pub returns-in-Ok-clause-cause : goal.returns-in-Ok-clause-cause
returns-in-Ok-clause-cause g c = cause_since c.split_files.ensures.cause c.find_files.ensures.cause.later (λ is. is)

pub returns-in-Err-clause-any_moment : goal.returns-in-Err-clause-any_moment
returns-in-Err-clause-any_moment g c told =
    let u = g.D.Disk.view c.args.disk.now in
    let watches = c.find_files.ensures.watches told in
    (watches.0, weaker (IsImageNow u) (WasOrAlike u) watches.0 u (g.D.Disk.view c.find_files.new.disk) (λ J was. inl was) watches.1.moments)

pub returns-in-Err-clause-unsound : goal.returns-in-Err-clause-unsound
returns-in-Err-clause-unsound g c told =
    let unsound = λ (d : Damage). ¬ IsSound (g.D.Disk.view c.args.disk.now).files in
    handed_on Finding SplitFiles unsound unsound c.in-Err.e (Err c.in-Err.e) refl refl (λ d is. is) (c.in-Err.ensures.unsound told)

pub returns-in-Err-clause-damaged : goal.returns-in-Err-clause-damaged
returns-in-Err-clause-damaged g c told =
    let u = g.D.Disk.view c.args.disk.now in
    let v = g.D.Disk.view c.find_files.new.disk in
    handed_on Finding SplitFiles (IsDamage u.files) (λ d. IsDamage u.files d × (v.files ≡ u.files)) c.in-Err.e (Err c.in-Err.e) refl refl (λ d is. (is, (c.find_files.ensures.watches told).1.files)) (c.in-Err.ensures.damaged told)

pub returns-in-Err-clause-cause : goal.returns-in-Err-clause-cause
returns-in-Err-clause-cause g c = same_cause c.in-Err.ensures.cause (λ is. same_error Finding SplitFiles is)
