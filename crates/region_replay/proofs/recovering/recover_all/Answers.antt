use Rattle.std.proofs.Common.{◌≡◌, ◌+◌, ◌∙◌, inr, List, Contains, refl, subst}
use Rattle.std.proofs.lemmas.Result.{on_ok_weaker}
use Rattle.log_model.specs.declared.name.Name.{Name}
use Rattle.log_model.specs.declared.damage.Damage.{Damage}
use Rattle.log_model.specs.Files.{IsSound}
use Rattle.log_model.specs.Damage.{IsDamage}
use Rattle.disk_images.proofs.Moments.{joined, weaker}
use Rattle.disk_images.proofs.Settled.{there_of}
use Rattle.recovery_laws.specs.Alike.{AllAlike}
use Rattle.recovery_laws.proofs.Turns.{in_turn}
use Rattle.found_files.proofs.Told.{if_damage}
use Rattle.found_files.proofs.Causes.{same_cause, cause_since, same_error}
use Rattle.wal_split.specs.Moments.{WasOrAlike}
use Rattle.wal_split.specs.Logs.{old_name}
use Rattle.wal_split.specs.declared.split_files.SplitFiles.{SplitFiles}
use Rattle.region_replay.specs.declared.found.Recovered.{Recovered}
use Rattle.region_replay.proofs.StillSplit.{refused_too}
use Rattle.region_replay.proofs.recovering.recover_all.Goals as goal

pub returns-in-Ok-clause-any_moment : goal.returns-in-Ok-clause-any_moment
returns-in-Ok-clause-any_moment g c told =
    let u = g.D.Disk.view c.args.disk.now in
    let w = g.D.Disk.view c.split_read.new.disk in
    let v = g.D.Disk.view c.recover_split.new.disk in
    let first = c.split_read.ensures.any_moment told in
    let second = c.recover_split.ensures.any_moment told in
    let alike = c.in-Ok.ensures.alike told in
    (first.0 + second.0, joined (WasOrAlike u) first.0 second.0 u w v first.1 (weaker (AllAlike w.files) (WasOrAlike u) second.0 w v (λ J more. inr (in_turn u.files w.files J alike more)) second.1))

pub returns-in-Ok-clause-alike : goal.returns-in-Ok-clause-alike
returns-in-Ok-clause-alike g c told =
    let u = g.D.Disk.view c.args.disk.now in
    let w = g.D.Disk.view c.split_read.new.disk in
    let v = g.D.Disk.view c.recover_split.new.disk in
    on_ok_weaker c.recover_split.result (λ more. in_turn u.files w.files v.files (c.in-Ok.ensures.alike told) more) (c.recover_split.ensures.alike told)

pub returns-in-Ok-clause-names : goal.returns-in-Ok-clause-names
returns-in-Ok-clause-names g c told =
    let u = g.D.Disk.view c.args.disk.now in
    on_ok_weaker c.recover_split.result
    (λ higher n bound m here. higher n (c.in-Ok.ensures.names told n bound) (λ k has. bound k (there_of u.files k (subst (λ (l : List Name). Contains l k) (c.in-Ok.ensures.found told) has))) m here)
    (c.recover_split.ensures.names told)

pub returns-in-Ok-clause-stored : goal.returns-in-Ok-clause-stored
returns-in-Ok-clause-stored g c told = c.recover_split.ensures.stored told (g.D.Disk.view c.args.disk.now).files (c.in-Ok.ensures.stores told)

pub returns-in-Ok-clause-olds : goal.returns-in-Ok-clause-olds
returns-in-Ok-clause-olds g c told =
    let split = c.in-Ok.ensures.olds told in
    on_ok_weaker c.recover_split.result
    (λ stay. record {
      moved = λ n here. stay (old_name n) refl ∙ split.moved n here;
      stay = λ m old here. stay m old ∙ split.stay m old here;
    })
    (c.recover_split.ensures.olds told)

pub returns-in-Ok-clause-sound : goal.returns-in-Ok-clause-sound
returns-in-Ok-clause-sound g c told = on_ok_weaker c.recover_split.result (λ ready. c.in-Ok.ensures.sound told) (c.recover_split.ensures.ready told)

pub returns-in-Ok-clause-unsound : goal.returns-in-Ok-clause-unsound
returns-in-Ok-clause-unsound g c told =
    if_damage (λ d. ⊥) (λ d. ¬ IsSound (g.D.Disk.view c.args.disk.now).files) c.recover_split.result (λ d none. absurd none) c.recover_split.ensures.undamaged

pub returns-in-Ok-clause-damaged : goal.returns-in-Ok-clause-damaged
returns-in-Ok-clause-damaged g c told =
    let u = g.D.Disk.view c.args.disk.now in
    let v = g.D.Disk.view c.recover_split.new.disk in
    if_damage (λ d. ⊥) (λ d. IsDamage u.files d × (v.files ≡ u.files)) c.recover_split.result (λ d none. absurd none) c.recover_split.ensures.undamaged

pub returns-in-Ok-clause-cause : goal.returns-in-Ok-clause-cause
returns-in-Ok-clause-cause g c = cause_since c.recover_split.ensures.cause c.split_read.ensures.cause.later (λ is. is)

pub returns-in-Err-clause-unsound : goal.returns-in-Err-clause-unsound
returns-in-Err-clause-unsound g c told =
    let unsound = λ (d : Damage). ¬ IsSound (g.D.Disk.view c.args.disk.now).files in
    refused_too SplitFiles Recovered unsound unsound c.in-Err.e (λ d is. is) (c.in-Err.ensures.unsound told)

pub returns-in-Err-clause-damaged : goal.returns-in-Err-clause-damaged
returns-in-Err-clause-damaged g c told =
    let u = g.D.Disk.view c.args.disk.now in
    let w = g.D.Disk.view c.split_read.new.disk in
    let hurt = λ (d : Damage). IsDamage u.files d × (w.files ≡ u.files) in
    refused_too SplitFiles Recovered hurt hurt c.in-Err.e (λ d is. is) (c.in-Err.ensures.damaged told)

pub returns-in-Err-clause-cause : goal.returns-in-Err-clause-cause
returns-in-Err-clause-cause g c = same_cause c.in-Err.ensures.cause (λ is. same_error SplitFiles Recovered is)
