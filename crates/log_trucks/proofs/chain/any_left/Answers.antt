use Rattle.std.proofs.Common.{rules, ◌≡◌, ◌≤◌, ℕ, length, drop, arith, ap, ◌∙◌, Some, None, true, false}
use Rattle.std.specs.List.{between}
use Rattle.std.proofs.lemmas.Slice.{between_to_end}
use Rattle.cell_model.specs.Cell.{spelled_length, fault_of}
use Rattle.cell_model.proofs.CellLaws.{no_fault_from_fronts}
use Rattle.log_model.proofs.FrameLaws.{fronts-le}
use Rattle.entry_frame.proofs.OwnLaws.{cell_there}
use Rattle.std.proofs.lemmas.Bool.Decides.{nat_tests}
use Rattle.log_trucks.specs.Unflushed.{is_unflushed}
use Rattle.log_trucks.proofs.Walked.{walked_more, walked_found, walked_all}
use Rattle.log_trucks.proofs.chain.any_left.Goals as goal

pub unreachable-requires : goal.unreachable-requires
unreachable-requires c =
    let s = c.requires.cells in
    let so_far = c.loop.invariant s.cells s.count s.each s.is in
    let here = cell_there c.args.form s.cells c.loop.counter c.loop.rest.now (omega (arith, s.count)) s.each so_far.0 in
    let none : fault_of c.args.form c.loop.rest.now ≡ None = no_fault_from_fronts c.args.form c.loop.rest.now here.0 here.1 in
    let some : fault_of c.args.form c.loop.rest.now ≡ Some c.in_default.field-0.at = c.in_default.ensures.exact in
    cc (none, some)

pub slice_bounds-rest-count : goal.slice_bounds-rest-count
slice_bounds-rest-count c = let f = c.in-Ok.ensures.exact in omega (arith, fronts-le c.args.form c.loop.rest.now c.in-Ok.cell f.0, f.1)

pub slice_bounds-rest-start : goal.slice_bounds-rest-start
slice_bounds-rest-start c =
    let f = c.in-Ok.ensures.exact in
    let le : c.in-Ok.len ≤ length c.loop.rest.now = omega (arith, fronts-le c.args.form c.loop.rest.now c.in-Ok.cell f.0, f.1) in
    search rules

pub returns-then-number-flushed : goal.returns-then-number-flushed
returns-then-number-flushed c = λ s.
    let passes : is_unflushed c.args.accounting.now c.args.region c.args.number c.in-Ok.cell ≡ true = grind (arith, nat_tests, c.if-number-flushed.true, c.flushed.ensures) in
    walked_found (is_unflushed c.args.accounting.now c.args.region c.args.number) c.args.form c.args.bytes.now c.args.count c.loop.rest.now c.loop.counter c.in-Ok.cell c.loop.invariant c.loop-test.true
    c.in-Ok.ensures.exact.0 passes s.cells s.count s.each s.is

pub loop-preserved : goal.loop-preserved
loop-preserved c = λ cs size all is.
    let f = c.in-Ok.ensures.exact in
    let passes : is_unflushed c.args.accounting.now c.args.region c.args.number c.in-Ok.cell ≡ false = grind (arith, nat_tests, c.if-number-flushed.false, c.flushed.ensures) in
    let next = walked_more (is_unflushed c.args.accounting.now c.args.region c.args.number) c.args.form c.args.bytes.now c.args.count c.loop.rest.now c.loop.counter c.in-Ok.cell c.loop.invariant c.loop-test.true
    f.0 passes cs size all is in
    let part : between c.in-Ok.len (length c.loop.rest.now) c.loop.rest.now ≡ drop (spelled_length c.args.form c.in-Ok.cell) c.loop.rest.now =
    between_to_end c.loop.rest.now c.in-Ok.len (length c.loop.rest.now) (omega arith) ∙ ap (λ (n : ℕ). drop n c.loop.rest.now) f.1 in
    (part ∙ next.0, next.1)
