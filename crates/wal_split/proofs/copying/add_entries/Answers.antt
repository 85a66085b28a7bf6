use Rattle.std.proofs.Common.{◌+◌, ◌*◌, IsTrue, length, take, refl, sym, arith}
use Rattle.std.proofs.lemmas.Bool.{false≢true}
use Rattle.disk_images.specs.Crash.{OnlyAt}
use Rattle.disk_images.proofs.Moments.{more_time}
use Rattle.found_files.proofs.Causes.{cause_since}
use Rattle.wal_split.specs.Some.{HasSome}
use Rattle.wal_split.proofs.Copies.{none_in_yet, some_on, one_in}
use Rattle.wal_split.proofs.copying.add_entries.Goals as goal

pub loop-entry-init : goal.loop-entry-init
loop-entry-init g c = (none_in_yet (IsTrue g.D.Disk.told) c.args.log.now (g.D.Disk.view c.args.disk.now) c.args.entries.now c.requires.empty c.requires.open, omega arith)

pub returns-in_err-add_entry-clause-any_moment : goal.returns-in_err-add_entry-clause-any_moment
returns-in_err-add_entry-clause-any_moment g c told =
    let u = g.D.Disk.view c.args.disk.now in
    let v = g.D.Disk.view c.loop-entry.disk in
    let w = g.D.Disk.view c.add_entry.new.disk in
    let es = c.args.entries.now in
    let i = c.loop-entry.entry-index in
    let so_far = c.loop-entry.invariant.0 in
    more_time (OnlyAt c.args.log.now.name (HasSome c.args.log.now.name es) u) (4 * i + 4) (4 * length es) u w (omega (arith, c.loop-entry-test.true))
    (some_on (IsTrue g.D.Disk.told) c.args.log.now c.loop-entry.log c.add_entry.new.log u v w es i so_far (λ is_told. c.add_entry.ensures.any_moment is_told (take i es) (so_far.in_it is_told)) told)

pub loop-entry-preserved : goal.loop-entry-preserved
loop-entry-preserved g c =
    let u = g.D.Disk.view c.args.disk.now in
    let v = g.D.Disk.view c.loop-entry.disk in
    let w = g.D.Disk.view c.add_entry.new.disk in
    let es = c.args.entries.now in
    let i = c.loop-entry.entry-index in
    let so_far = c.loop-entry.invariant.0 in (
      one_in (IsTrue g.D.Disk.told) c.args.log.now c.loop-entry.log c.add_entry.new.log u v w es i so_far (λ is_told. c.add_entry.ensures.any_moment is_told (take i es) (so_far.in_it is_told))
          c.entry-item.result c.entry-item.result c.loop-entry-test.true (sym c.entry-item.is) c.add_entry.ensures.name
          (λ is_told. c.in_ok-add_entry.ensures.added is_told (take i es) (so_far.in_it is_told)) c.add_entry.ensures.touches,
      omega (arith, c.loop-entry.invariant.1, c.add_entry.ensures.cause.later),
    )

pub returns-in_err-add_entry-clause-cause : goal.returns-in_err-add_entry-clause-cause
returns-in_err-add_entry-clause-cause g c = cause_since c.in_err-add_entry.ensures.cause c.loop-entry.invariant.1 (λ is. refl)

pub returns-clause-cause : goal.returns-clause-cause
returns-clause-cause g c = record { later = c.loop-entry.invariant.1; risen = λ is. absurd (false≢true is) }
