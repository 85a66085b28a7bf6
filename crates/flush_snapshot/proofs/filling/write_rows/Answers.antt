use Rattle.std.proofs.Common.{◌+◌, length, sym, subst, arith}
use Rattle.cell_model.specs.declared.form.Form.TheVariants.{Tagged}
use Rattle.log_model.specs.StoreText.{IsStore, store_text}
use Rattle.store_file.specs.Open.{store_of}
use Rattle.store_file.proofs.Writing.{same_store}
use Rattle.flush_snapshot.proofs.Moments.{filled_moments, rows_moments}
use Rattle.flush_snapshot.proofs.filling.write_rows.Goals as goal

pub returns-in_err-fill_rows-clause-any_moment : goal.returns-in_err-fill_rows-clause-any_moment
returns-in_err-fill_rows-clause-any_moment g c told =
    filled_moments c.args.store.name (store_text Tagged (store_of c.args.store c.args.rows.now)) (length c.args.rows.now) (length c.args.rows.now + 4) (g.D.Disk.view c.args.disk.now) (g.D.Disk.view c.fill_rows.new.disk) (omega arith) (c.fill_rows.ensures.any_moment told)

pub commit-requires-clause-full : goal.commit-requires-clause-full
commit-requires-clause-full g c = omega (arith, c.in_ok-fill_rows.ensures.counted, c.requires.«empty», c.requires.count, c.fill_rows.ensures.shape.count)

pub commit-requires-clause-store : goal.commit-requires-clause-store
commit-requires-clause-store g c told =
    let is = same_store c.args.store c.fill_rows.new.store c.args.rows.now c.fill_rows.ensures.shape in
    ∣ (c.args.rows.now, c.in_ok-fill_rows.ensures.filled told, subst IsStore (sym is) c.requires.whole) ∣₁

pub returns-clause-any_moment : goal.returns-clause-any_moment
returns-clause-any_moment g c told =
    rows_moments c.args.store c.fill_rows.new.store (g.D.Disk.view c.args.disk.now) (g.D.Disk.view c.fill_rows.new.disk) (g.D.Disk.view c.commit.new.disk) c.args.rows.now
    c.fill_rows.ensures.shape c.requires.whole c.requires.count (c.in_ok-fill_rows.ensures.filled told) (c.fill_rows.ensures.any_moment told) (λ cells is store count. (c.commit.ensures.commits told cells is).atomic)
