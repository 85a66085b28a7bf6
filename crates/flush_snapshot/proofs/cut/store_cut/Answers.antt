use Rattle.std.proofs.Common.{◌+◌, sym, subst, length, arith}
use Rattle.cell_model.specs.Order.{Content, cells_of}
use Rattle.cell_model.specs.declared.form.Form.TheVariants.{Tagged}
use Rattle.log_model.specs.StoreText.{IsStore, store_text}
use Rattle.disk_images.specs.Crash.{Throughout, OnlyAt}
use Rattle.store_file.specs.Whole.{IsWholeOrNot}
use Rattle.flush_snapshot.specs.Cut.{ordered_cells, cut_store, segment_store}
use Rattle.flush_snapshot.proofs.Cuts.{cut_is_store}
use Rattle.flush_snapshot.proofs.Moments.{none_begun}
use Rattle.flush_snapshot.proofs.cut.store_cut.Goals as goal

pub returns-in_err-segment-clause-any_moment : goal.returns-in_err-segment-clause-any_moment
returns-in_err-segment-clause-any_moment g c told =
    let free = c.requires.absent told in
    none_begun c.args.name (store_text Tagged (cut_store c.args.name c.args.family.now c.args.from c.args.to c.args.cut)) (7 + length (ordered_cells c.args.cut)) (g.D.Disk.view c.args.disk.now)
    ((g.met.D.Disk.is_true c.args.disk.now told).absent c.args.name free.0 free.1)

pub write_segment-requires-clause-store : goal.write_segment-requires-clause-store
write_segment-requires-clause-store g c =
    subst (λ (m : Content). IsStore (segment_store c.args.name c.args.family.now c.args.from c.args.to m)) (sym c.in_ok-segment.ensures.content)
    (cut_is_store c.args.name c.args.family.now c.args.from c.args.to c.args.cut (omega arith) c.requires.family c.requires.of c.requires.range c.requires.within c.in_ok-segment.ensures.within)

pub returns-in_err-write_segment-clause-store : goal.returns-in_err-write_segment-clause-store
returns-in_err-write_segment-clause-store g c other = cut_is_store c.args.name c.args.family.now c.args.from c.args.to c.args.cut (omega arith) c.requires.family c.requires.of c.requires.range c.requires.within c.in_ok-segment.ensures.within

pub returns-in_err-write_segment-clause-any_moment : goal.returns-in_err-write_segment-clause-any_moment
returns-in_err-write_segment-clause-any_moment g c told =
    let v = g.D.Disk.view c.args.disk.now in
    subst (λ (m : Content). Throughout (OnlyAt c.args.name (IsWholeOrNot (store_text Tagged (segment_store c.args.name c.args.family.now c.args.from c.args.to m))) v) (7 + length (cells_of m)) v (g.D.Disk.view c.write_segment.new.disk))
    c.in_ok-segment.ensures.content (c.write_segment.ensures.any_moment told)

pub returns-clause-store : goal.returns-clause-store
returns-clause-store g c other = cut_is_store c.args.name c.args.family.now c.args.from c.args.to c.args.cut (omega arith) c.requires.family c.requires.of c.requires.range c.requires.within c.in_ok-segment.ensures.within

pub returns-clause-any_moment : goal.returns-clause-any_moment
returns-clause-any_moment g c told =
    let v = g.D.Disk.view c.args.disk.now in
    subst (λ (m : Content). Throughout (OnlyAt c.args.name (IsWholeOrNot (store_text Tagged (segment_store c.args.name c.args.family.now c.args.from c.args.to m))) v) (7 + length (cells_of m)) v (g.D.Disk.view c.write_segment.new.disk))
    c.in_ok-segment.ensures.content (c.write_segment.ensures.any_moment told)
