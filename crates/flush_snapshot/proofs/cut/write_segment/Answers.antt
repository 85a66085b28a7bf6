use Rattle.std.proofs.Common.{◌+◌, sym, subst, length, arith}
use Rattle.cell_model.specs.Order.{cells_of}
use Rattle.cell_model.specs.declared.form.Form.TheVariants.{Tagged}
use Rattle.log_model.specs.StoreText.{IsStore, store_text}
use Rattle.flush_snapshot.specs.Cut.{segment_store}
use Rattle.flush_snapshot.proofs.Moments.{IsOfSegment, same_segment, filled_moments, segment_moments}
use Rattle.flush_snapshot.proofs.cut.write_segment.Goals as goal

pub returns-in_err-store-clause-any_moment : goal.returns-in_err-store-clause-any_moment
returns-in_err-store-clause-any_moment g c told =
    filled_moments c.args.name (store_text Tagged (segment_store c.args.name c.args.family.now c.args.from c.args.to c.args.segment.now)) 3 (7 + length (cells_of c.args.segment.now)) (g.D.Disk.view c.args.disk.now) (g.D.Disk.view c.begin.new.disk) (omega arith) (c.begin.ensures.begins told).never_there

pub write_rows-requires-clause-whole : goal.write_rows-requires-clause-whole
write_rows-requires-clause-whole g c =
    let shape = c.in_ok-store.ensures.shape in
    let of : IsOfSegment c.in_ok-store.store c.rows-rows.result.now c.args.name c.args.family.now c.args.from c.args.to c.args.segment.now =
    record { name_is = shape.name_is; scope_is = shape.scope_is; family_is = shape.family_is; from_is = shape.from_is; to_is = shape.to_is; rows_are = c.rows-rows.ensures } in
    subst IsStore (sym (same_segment c.in_ok-store.store c.rows-rows.result.now c.args.name c.args.family.now c.args.from c.args.to c.args.segment.now of)) c.requires.store

pub returns-in_err-write_rows-clause-any_moment : goal.returns-in_err-write_rows-clause-any_moment
returns-in_err-write_rows-clause-any_moment g c told =
    let shape = c.in_ok-store.ensures.shape in
    segment_moments c.in_ok-store.store c.rows-rows.result.now c.args.name c.args.family.now c.args.from c.args.to c.args.segment.now (g.D.Disk.view c.args.disk.now) (g.D.Disk.view c.begin.new.disk) (g.D.Disk.view c.write_rows.new.disk)
    (record { name_is = shape.name_is; scope_is = shape.scope_is; family_is = shape.family_is; from_is = shape.from_is; to_is = shape.to_is; rows_are = c.rows-rows.ensures })
    (c.begin.ensures.begins told).never_there (c.write_rows.ensures.any_moment told)

pub returns-clause-any_moment : goal.returns-clause-any_moment
returns-clause-any_moment g c told =
    let shape = c.in_ok-store.ensures.shape in
    segment_moments c.in_ok-store.store c.rows-rows.result.now c.args.name c.args.family.now c.args.from c.args.to c.args.segment.now (g.D.Disk.view c.args.disk.now) (g.D.Disk.view c.begin.new.disk) (g.D.Disk.view c.write_rows.new.disk)
    (record { name_is = shape.name_is; scope_is = shape.scope_is; family_is = shape.family_is; from_is = shape.from_is; to_is = shape.to_is; rows_are = c.rows-rows.ensures })
    (c.begin.ensures.begins told).never_there (c.write_rows.ensures.any_moment told)
