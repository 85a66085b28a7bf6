use Rattle.std.proofs.Common.{◌≡◌, [], ◌∷◌, ◌++◌, IsTrue, List, take, get_or, sym, ap, ◌∙◌, arith}
use Rattle.std.proofs.lemmas.List.{take_more}
use Rattle.cell_model.specs.Order.{NumberedCell}
use Rattle.flush_snapshot.proofs.Going.{none_filled, within_rows, one_row_more}
use Rattle.flush_snapshot.proofs.filling.fill_rows.Goals as goal

pub loop-row-init : goal.loop-row-init
loop-row-init g c = (none_filled (IsTrue g.D.Disk.told) c.args.store.now (g.D.Disk.view c.args.disk.now) c.args.rows.now c.requires, omega arith, omega arith)

pub returns-in_err-fill-clause-any_moment : goal.returns-in_err-fill-clause-any_moment
returns-in_err-fill-clause-any_moment g c =
    let so_far = c.loop-row.invariant.0 in
    within_rows (IsTrue g.D.Disk.told) c.args.store.now c.loop-row.store c.fill.new.self (g.D.Disk.view c.args.disk.now) (g.D.Disk.view c.loop-row.disk) (g.D.Disk.view c.fill.new.disk) c.args.rows.now c.loop-row.row-index so_far
    (λ told. (c.fill.ensures.puts_in told (take c.loop-row.row-index c.args.rows.now) (so_far.filling told)).never_there) (omega (arith, c.loop-row-test.true))

pub loop-row-preserved : goal.loop-row-preserved
loop-row-preserved g c =
    let so_far = c.loop-row.invariant.0 in
    let i = c.loop-row.row-index in
    let rows : List NumberedCell = c.args.rows.now in
    let x : NumberedCell = (c.number.result, c.cell.result.now) in
    let here : get_or rows i c.row-item.result ≡ x = sym c.row-item.is ∙ (λ j. (sym c.number.ensures j, sym c.cell.ensures j)) in (
      one_row_more (IsTrue g.D.Disk.told) c.args.store.now c.loop-row.store c.fill.new.self (g.D.Disk.view c.args.disk.now) (g.D.Disk.view c.loop-row.disk) (g.D.Disk.view c.fill.new.disk) rows i so_far
          (λ told. (c.fill.ensures.puts_in told (take i rows) (so_far.filling told)).never_there) x
          (take_more rows i c.row-item.result c.loop-row-test.true ∙ ap (λ (y : NumberedCell). take i rows ++ y ∷ []) here)
          c.fill.ensures.shape (λ told. (c.in_ok-fill.ensures.puts_in told (take i rows) (so_far.filling told)).filling) c.fill.ensures.no_other_file,
      omega (arith, c.loop-row.invariant.1, c.fill.ensures.cause.later),
      omega (arith, c.loop-row.invariant.2, c.in_ok-fill.ensures.counted),
    )
