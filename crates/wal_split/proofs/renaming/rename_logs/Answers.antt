use Rattle.std.proofs.Common.{◌+◌, IsTrue, length, get_or, refl, arith}
use Rattle.std.proofs.lemmas.Bool.{false≢true}
use Rattle.std.proofs.Math.Logic.{∥∥₁_map, ∥∥₁_elim}
use Rattle.disk_images.proofs.Moments.{more_time}
use Rattle.recovery_laws.specs.Alike.{AllAlike}
use Rattle.log_model.specs.Files.{content}
use Rattle.found_files.proofs.Causes.{cause_since}
use Rattle.wal_split.specs.Logs.{old_name}
use Rattle.wal_split.proofs.Turning.{none_renamed, reads_log, old_absent, old_not_gone, moments_on, one_renamed, absent_by, all_taken, all_other}
use Rattle.wal_split.proofs.renaming.rename_logs.Goals as goal

pub loop-number-init : goal.loop-number-init
loop-number-init g c = (none_renamed (IsTrue g.D.Disk.told) (g.D.Disk.view c.args.disk.now) c.args.logs.now, omega arith)

pub loop-number-preserved : goal.loop-number-preserved
loop-number-preserved g c =
    let u = g.D.Disk.view c.args.disk.now in
    let v = g.D.Disk.view c.loop-number.disk in
    let w = g.D.Disk.view c.rename.new.self in (
      one_renamed (IsTrue g.D.Disk.told) u v w c.args.logs.now c.loop-number.number-index c.loop-number-test.true c.requires.rising c.loop-number.invariant.0 c.rename.ensures.renames (λ told. (c.in_ok-rename.ensures.renames told).renamed),
      omega (arith, c.loop-number.invariant.1, c.rename.ensures.cause.later),
    )

pub returns-in_err-rename-clause-any_moment : goal.returns-in_err-rename-clause-any_moment
returns-in_err-rename-clause-any_moment g c told base held kept =
    let u = g.D.Disk.view c.args.disk.now in
    let v = g.D.Disk.view c.loop-number.disk in
    let w = g.D.Disk.view c.rename.new.self in
    let i = c.loop-number.number-index in
    more_time (AllAlike base) (i + 1) (length c.args.logs.now) u w (omega (arith, c.loop-number-test.true))
    (moments_on (IsTrue g.D.Disk.told) u v w c.args.logs.now i c.loop-number-test.true c.requires.rising c.loop-number.invariant.0 c.rename.ensures.renames told base held kept)

pub rename-requires-clause-from : goal.rename-requires-clause-from
rename-requires-clause-from g c told =
    let u = g.D.Disk.view c.args.disk.now in
    let v = g.D.Disk.view c.loop-number.disk in
    ∥∥₁_map (c.requires.free told) (λ free. reads_log (IsTrue g.D.Disk.told) u v v c.args.logs.now c.loop-number.number-index c.loop-number-test.true c.requires.rising c.loop-number.invariant.0 told free)

pub rename-requires-clause-to : goal.rename-requires-clause-to
rename-requires-clause-to g c told =
    let u = g.D.Disk.view c.args.disk.now in
    let v = g.D.Disk.view c.loop-number.disk in
    let logs = c.args.logs.now in
    let i = c.loop-number.number-index in (
      absent_by (content v.files (old_name (get_or logs i 0))) (c.requires.free told) (λ free. old_absent (IsTrue g.D.Disk.told) u v v logs i c.loop-number-test.true c.requires.rising c.loop-number.invariant.0 told free),
      λ gone. ∥∥₁_elim (c.requires.free told) (λ a b. absurd a) (λ free. old_not_gone (IsTrue g.D.Disk.told) u v v logs i c.loop-number-test.true c.requires.rising c.loop-number.invariant.0 told free gone),
    )

pub returns-clause-gone : goal.returns-clause-gone
returns-clause-gone g c told n has = c.loop-number.invariant.0.left told n (all_taken c.args.logs.now c.loop-number.number-index n (omega (arith, c.loop-number-test.false)) has)

pub returns-clause-moved : goal.returns-clause-moved
returns-clause-moved g c told n has = c.loop-number.invariant.0.moved told n (all_taken c.args.logs.now c.loop-number.number-index n (omega (arith, c.loop-number-test.false)) has)

pub returns-clause-others : goal.returns-clause-others
returns-clause-others g c told m other = c.loop-number.invariant.0.others told m (all_other c.args.logs.now c.loop-number.number-index m (omega (arith, c.loop-number-test.false)) other)

pub returns-in_err-rename-clause-cause : goal.returns-in_err-rename-clause-cause
returns-in_err-rename-clause-cause g c = cause_since c.in_err-rename.ensures.cause c.loop-number.invariant.1 (λ is. refl)

pub returns-clause-cause : goal.returns-clause-cause
returns-clause-cause g c = record { later = c.loop-number.invariant.1; risen = λ is. absurd (false≢true is) }
