use Rattle.std.proofs.Common.{rules, ◌≡◌, ◌≤◌, ℕ, length, drop, arith, ap, ◌∙◌, Some, None}
use Rattle.std.specs.List.{between}
use Rattle.std.proofs.lemmas.List.{take_all}
use Rattle.std.proofs.lemmas.Slice.{between_to_end}
use Rattle.cell_model.specs.Cell.{spelled_length, fault_of}
use Rattle.cell_model.proofs.CellLaws.{no_fault_from_fronts}
use Rattle.log_model.proofs.FrameLaws.{fronts-le}
use Rattle.entry_frame.proofs.OwnLaws.{cell_there, copied_more}
use Rattle.entry_frame.proofs.owning.own_cells.Goals as goal

pub unreachable-requires : goal.unreachable-requires
unreachable-requires c =
    let s = c.requires in
    let so_far = c.loop.invariant s.cells s.count s.each s.is in
    let here = cell_there c.args.form s.cells c.loop.counter c.loop.rest.now (omega (arith, s.count)) s.each so_far.1 in
    let none : fault_of c.args.form c.loop.rest.now ≡ None = no_fault_from_fronts c.args.form c.loop.rest.now here.0 here.1 in
    let some : fault_of c.args.form c.loop.rest.now ≡ Some c.in_default.field-0.at = c.in_default.ensures.exact in
    cc (none, some)

pub slice_bounds-rest-count : goal.slice_bounds-rest-count
slice_bounds-rest-count c = let f = c.in-Ok.ensures.exact in omega (arith, fronts-le c.args.form c.loop.rest.now c.in-Ok.cell f.0, f.1)

pub slice_bounds-rest-start : goal.slice_bounds-rest-start
slice_bounds-rest-start c =
    let f = c.in-Ok.ensures.exact in
    let le : c.in-Ok.len ≤ length c.loop.rest.now = omega (arith, fronts-le c.args.form c.loop.rest.now c.in-Ok.cell f.0, f.1) in
    search rules

pub loop-preserved : goal.loop-preserved
loop-preserved c = λ cs size all is.
    let f = c.in-Ok.ensures.exact in
    let next = copied_more c.args.form c.args.bytes.now c.args.count c.loop.cells.items c.loop.rest.now c.loop.counter c.in-Ok.cell c.in_ok-to_cell.field-0 c.loop.invariant c.loop-test.true f.0 c.in_ok-to_cell.ensures cs size all is in
    let part : between c.in-Ok.len (length c.loop.rest.now) c.loop.rest.now ≡ drop (spelled_length c.args.form c.in-Ok.cell) c.loop.rest.now =
    between_to_end c.loop.rest.now c.in-Ok.len (length c.loop.rest.now) (omega arith) ∙ ap (λ (n : ℕ). drop n c.loop.rest.now) f.1 in
    (c.in_ok-push.ensures.items ∙ next.0, part ∙ next.1)

pub returns : goal.returns
returns c = λ s. (c.loop.invariant s.cells s.count s.each s.is).0 ∙ take_all c.loop.counter s.cells (omega (arith, s.count, c.loop-test.false))
