use Rattle.std.proofs.Common.{◌+◌, length, refl, arith}
use Rattle.std.proofs.Math.Logic.{∥∥₁_map}
use Rattle.log_ledger.specs.History.{with_logs}
use Rattle.log_device.proofs.Going.{renames_on, renames_within, nothing_gone, is_left, one_gone, all_gone}
use Rattle.log_device.proofs.renaming.rename_flushed.Goals as goal

pub loop-file-init : goal.loop-file-init
loop-file-init g c = (λ told log h keeps counted. nothing_gone log (g.D.Disk.view c.args.disk.now) h c.args.ledger.now.next_store keeps, omega arith)

pub rename_log-requires : goal.rename_log-requires
rename_log-requires g c told =
    ∥∥₁_map (c.requires told) (λ r.
    let so_far = c.loop-file.invariant.0 told r.0 r.1 r.2 r.3 in
    let next = c.in-Some.ensures.exact r.1 r.3 in (
      r.0,
      with_logs r.1 so_far.left,
      c.args.ledger.now.next_store,
      next.log,
      so_far.keeps,
      is_left r.0 (g.D.Disk.view c.args.disk.now) (g.D.Disk.view c.loop-file.disk) r.1 c.args.ledger.now.next_store c.loop-file.above c.in-Some.file so_far next c.in-Some.ensures.later,
      next.number,
    ))

pub returns-in_err-rename_log-clause-renames : goal.returns-in_err-rename_log-clause-renames
returns-in_err-rename_log-clause-renames g c told log h keeps counted =
    let u = g.D.Disk.view c.args.disk.now in
    let v = g.D.Disk.view c.loop-file.disk in
    let w = g.D.Disk.view c.rename_log.new.disk in
    let ns = c.args.ledger.now.next_store in
    let so_far = c.loop-file.invariant.0 told log h keeps counted in
    let next = c.in-Some.ensures.exact h counted in
    let left = is_left log u v h ns c.loop-file.above c.in-Some.file so_far next c.in-Some.ensures.later in
    renames_within log h.kept h.current ns (so_far.calls + 1) (length h.logs) u w (omega (arith, so_far.total, left.1))
    (renames_on log h.kept h.current ns so_far.calls 1 u v w so_far.renames (c.rename_log.ensures.renames told log (with_logs h so_far.left) ns next.log so_far.keeps left next.number next.flushed))

pub returns-in_err-rename_log-clause-cause : goal.returns-in_err-rename_log-clause-cause
returns-in_err-rename_log-clause-cause g c =
    let cause = c.rename_log.ensures.cause in record {
      later = omega (arith, cause.later, c.loop-file.invariant.1);
      risen = λ failed. let rose = c.in_err-rename_log.ensures.cause.risen refl in omega (arith, rose, c.loop-file.invariant.1);
    }

pub loop-file-preserved : goal.loop-file-preserved
loop-file-preserved g c = (
  λ told log h keeps counted.
      let u = g.D.Disk.view c.args.disk.now in
      let v = g.D.Disk.view c.loop-file.disk in
      let w = g.D.Disk.view c.rename_log.new.disk in
      let ns = c.args.ledger.now.next_store in
      let so_far = c.loop-file.invariant.0 told log h keeps counted in
      let next = c.in-Some.ensures.exact h counted in
      let left = is_left log u v h ns c.loop-file.above c.in-Some.file so_far next c.in-Some.ensures.later in
      one_gone log u v h ns c.loop-file.above c.in-Some.file so_far next c.in-Some.ensures.later w
      (c.in_ok-rename_log.ensures.kept told log (with_logs h so_far.left) ns next.log so_far.keeps left next.number next.flushed)
      (c.rename_log.ensures.renames told log (with_logs h so_far.left) ns next.log so_far.keeps left next.number next.flushed),
  omega (arith, c.rename_log.ensures.cause.later, c.loop-file.invariant.1),
)

pub loop-file-smaller : goal.loop-file-smaller
loop-file-smaller g c = omega (arith, c.in-Some.ensures.later)

pub returns-clause-renames : goal.returns-clause-renames
returns-clause-renames g c told log h keeps counted =
    let so_far = c.loop-file.invariant.0 told log h keeps counted in
    renames_within log h.kept h.current c.args.ledger.now.next_store so_far.calls (length h.logs) (g.D.Disk.view c.args.disk.now) (g.D.Disk.view c.loop-file.disk) (omega (arith, so_far.total)) so_far.renames

pub returns-clause-kept : goal.returns-clause-kept
returns-clause-kept g c told log h keeps counted =
    let so_far = c.loop-file.invariant.0 told log h keeps counted in (
      so_far.left,
      all_gone log (g.D.Disk.view c.args.disk.now) (g.D.Disk.view c.loop-file.disk) h c.args.ledger.now.next_store c.loop-file.above so_far (c.first_to_go.ensures.given h counted) (c.in_default.ensures.exact h counted),
      so_far.keeps,
    )
