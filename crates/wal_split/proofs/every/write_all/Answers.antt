use Rattle.std.proofs.Common.{◌≡◌, ◌+◌, ◌*◌, ◌∙◌, IsTrue, List, Contains, None, length, get_or, sym, ap, subst, arith}
use Rattle.log_model.specs.declared.name.NameKind.TheVariants as kinds
use Rattle.log_model.specs.Entry.{Entry}
use Rattle.log_model.specs.Files.{content, IsAbsent}
use Rattle.disk_images.specs.OneFile.{Touches}
use Rattle.recovery_laws.specs.Change.{HasText}
use Rattle.log_file.specs.Open.{AreEntriesOf}
use Rattle.found_files.proofs.Causes.{cause_since, no_error, error_of}
use Rattle.wal_split.specs.declared.job.EditsJob.{EditsJob}
use Rattle.wal_split.proofs.Writing.{none_yet, among, absent_now, not_gone_now, moments_on, one_written, all_written, all_else}
use Rattle.wal_split.proofs.every.write_all.Goals as goal

pub loop-job-init : goal.loop-job-init
loop-job-init g c = (none_yet (IsTrue g.D.Disk.told) (g.D.Disk.view c.args.disk.now) c.args.jobs.now, omega arith)

pub write_some-requires-clause-absent : goal.write_some-requires-clause-absent
write_some-requires-clause-absent g c told =
    let u = g.D.Disk.view c.args.disk.now in
    let v = g.D.Disk.view c.loop-job.disk in
    let x = c.job-item.result in
    let so_far = c.loop-job.invariant.0 in
    subst (λ (j : EditsJob). IsAbsent v.files j.name × (v.gone j.name → ⊥)) (sym c.job-item.is) (
      absent_now (IsTrue g.D.Disk.told) u v v c.args.jobs.now c.loop-job.job-index x c.loop-job-test.true c.requires.jobs c.requires.free so_far told,
      not_gone_now (IsTrue g.D.Disk.told) u v v c.args.jobs.now c.loop-job.job-index x c.loop-job-test.true c.requires.jobs c.requires.free so_far told,
    )

pub write_some-requires-clause-kind : goal.write_some-requires-clause-kind
write_some-requires-clause-kind g c =
    let u = g.D.Disk.view c.args.disk.now in
    let v = g.D.Disk.view c.loop-job.disk in
    let x = c.job-item.result in
    subst (λ (j : EditsJob). j.name.kind ≡ kinds.Edits) (sym c.job-item.is)
    (c.requires.jobs.kind (get_or c.args.jobs.now c.loop-job.job-index x) (among (IsTrue g.D.Disk.told) u v v c.args.jobs.now c.loop-job.job-index x c.loop-job-test.true c.requires.jobs c.requires.free c.loop-job.invariant.0))

pub write_some-requires-clause-of : goal.write_some-requires-clause-of
write_some-requires-clause-of g c =
    let u = g.D.Disk.view c.args.disk.now in
    let v = g.D.Disk.view c.loop-job.disk in
    let x = c.job-item.result in
    subst (λ (l : List Entry). AreEntriesOf x.name l) (sym c.as_slice.ensures.value)
    (subst (λ (j : EditsJob). AreEntriesOf j.name j.entries.items) (sym c.job-item.is)
    (c.requires.jobs.each (get_or c.args.jobs.now c.loop-job.job-index x) (among (IsTrue g.D.Disk.told) u v v c.args.jobs.now c.loop-job.job-index x c.loop-job-test.true c.requires.jobs c.requires.free c.loop-job.invariant.0)))

pub returns-in_err-write_some-clause-any_moment : goal.returns-in_err-write_some-clause-any_moment
returns-in_err-write_some-clause-any_moment g c told base held logged =
    let u = g.D.Disk.view c.args.disk.now in
    let v = g.D.Disk.view c.loop-job.disk in
    let w = g.D.Disk.view c.write_some.new.disk in
    let x = c.job-item.result in
    let same = c.as_slice.ensures.value ∙ ap (λ (j : EditsJob). j.entries.items) c.job-item.is in
    moments_on (IsTrue g.D.Disk.told) u v w c.args.jobs.now c.loop-job.job-index x c.loop-job-test.true c.requires.jobs c.requires.free c.loop-job.invariant.0 (7 + 4 * length c.as_slice.result.now)
    (λ is_told b h all. c.write_some.ensures.any_moment is_told b h (λ e has. all e (subst (λ (l : List Entry). Contains l e) same has))) told base held logged

pub loop-job-preserved : goal.loop-job-preserved
loop-job-preserved g c =
    let u = g.D.Disk.view c.args.disk.now in
    let v = g.D.Disk.view c.loop-job.disk in
    let w = g.D.Disk.view c.write_some.new.disk in
    let x = c.job-item.result in
    let same = c.as_slice.ensures.value ∙ ap (λ (j : EditsJob). j.entries.items) c.job-item.is in (
      one_written (IsTrue g.D.Disk.told) u v w c.args.jobs.now c.loop-job.job-index x c.loop-job-test.true c.requires.jobs c.requires.free c.loop-job.invariant.0 (7 + 4 * length c.as_slice.result.now)
          (λ is_told b h all. c.write_some.ensures.any_moment is_told b h (λ e has. all e (subst (λ (l : List Entry). Contains l e) same has)))
          (λ is_told b h all. c.in_ok-write_some.ensures.held is_told b h (λ e has. all e (subst (λ (l : List Entry). Contains l e) same has)))
          (λ is_told. subst (λ (j : EditsJob). (e : Entry) → Contains j.entries.items e → HasText j.name j.entries.items None (content w.files j.name)) c.job-item.is (subst (λ (l : List Entry). (e : Entry) → Contains l e → HasText x.name l None (content w.files x.name)) c.as_slice.ensures.value (c.in_ok-write_some.ensures.written is_told)))
          (λ is_told. subst (λ (j : EditsJob). Touches j.name v w) c.job-item.is (c.write_some.ensures.touches is_told))
          (λ is_told empty. c.write_some.ensures.none is_told (same ∙ empty)),
      omega (arith, c.loop-job.invariant.1, c.write_some.ensures.cause.later),
    )

pub returns-clause-written : goal.returns-clause-written
returns-clause-written g c told j e has member = c.loop-job.invariant.0.written told j e (all_written c.args.jobs.now c.loop-job.job-index j (omega (arith, c.loop-job-test.false)) has) member

pub returns-clause-others : goal.returns-clause-others
returns-clause-others g c told m other = c.loop-job.invariant.0.others told m (all_else c.args.jobs.now c.loop-job.job-index m (omega (arith, c.loop-job-test.false)) other)

pub returns-clause-gone : goal.returns-clause-gone
returns-clause-gone g c told m gone = c.loop-job.invariant.0.gone told m gone

pub returns-in_err-write_some-clause-cause : goal.returns-in_err-write_some-clause-cause
returns-in_err-write_some-clause-cause g c =
    cause_since c.in_err-write_some.ensures.cause c.loop-job.invariant.1 (λ is. error_of (Unit {0}) c.in_err-write_some.field-0.0 _ c.from_residual.result c.from_residual.ensures.1 is)

pub returns-clause-cause : goal.returns-clause-cause
returns-clause-cause g c = record { later = c.loop-job.invariant.1; risen = λ is. absurd (no_error is) }
