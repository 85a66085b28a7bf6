use Rattle.std.proofs.Common.{◌+◌, sym, subst, length}
use Rattle.cell_model.specs.declared.form.Form.TheVariants.{Tagged}
use Rattle.log_model.specs.StoreText.{IsStore, store_text}
use Rattle.store_file.proofs.Stores.{or_whole}
use Rattle.store_compact.specs.Plan.{whole_store}
use Rattle.store_compact.proofs.Begun.{begun_store, whole_moments}
use Rattle.store_compact.proofs.writing.write_whole.Goals as goal

pub returns-in_err-store-clause-any_moment : goal.returns-in_err-store-clause-any_moment
returns-in_err-store-clause-any_moment g c told =
    (3, or_whole c.args.name (store_text Tagged (whole_store c.args.name c.args.from c.args.to c.args.rows.now)) 3 (g.D.Disk.view c.args.disk.now) (g.D.Disk.view c.begin.new.disk) (c.begin.ensures.begins told).never_there)

pub write_rows-requires-clause-whole : goal.write_rows-requires-clause-whole
write_rows-requires-clause-whole g c =
    subst IsStore (sym (begun_store c.in_ok-store.store c.args.name c.args.from c.args.to (length c.args.rows.now) c.args.rows.now c.in_ok-store.ensures.shape)) c.requires.store

pub returns-in_err-write_rows-clause-any_moment : goal.returns-in_err-write_rows-clause-any_moment
returns-in_err-write_rows-clause-any_moment g c told = (
  3 + (length c.args.rows.now + 4),
  whole_moments c.in_ok-store.store c.args.name c.args.from c.args.to (length c.args.rows.now) c.args.rows.now (g.D.Disk.view c.args.disk.now) (g.D.Disk.view c.begin.new.disk) (g.D.Disk.view c.write_rows.new.disk)
      c.in_ok-store.ensures.shape (c.begin.ensures.begins told).never_there (c.write_rows.ensures.any_moment told),
)

pub returns-clause-any_moment : goal.returns-clause-any_moment
returns-clause-any_moment g c told = (
  3 + (length c.args.rows.now + 4),
  whole_moments c.in_ok-store.store c.args.name c.args.from c.args.to (length c.args.rows.now) c.args.rows.now (g.D.Disk.view c.args.disk.now) (g.D.Disk.view c.begin.new.disk) (g.D.Disk.view c.write_rows.new.disk)
      c.in_ok-store.ensures.shape (c.begin.ensures.begins told).never_there (c.write_rows.ensures.any_moment told),
)
