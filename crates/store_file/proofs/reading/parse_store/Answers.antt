use Rattle.std.proofs.Common.{ℕ, List, Option, sym, subst, arith}
use Rattle.std.proofs.lemmas.Result.{err_from_is_err_and}
use Rattle.cell_model.specs.Order.{NumberedCell}
use Rattle.log_model.specs.StoreText.{Store}
use Rattle.store_file.specs.Reading.{IsHead}
use Rattle.store_file.specs.declared.list.StoreText.{StoreText}
use Rattle.store_file.proofs.Texts.{text_from, lacks_pair, has_more}
use Rattle.store_file.proofs.reading.parse_store.Goals as goal

pub returns-in_err-cells-clause-damaged : goal.returns-in_err-cells-clause-damaged
returns-in_err-cells-clause-damaged c =
    let f = c.in-Ok.fields in
    let p = err_from_is_err_and c.from_residual-in_err-cells.result c.from_residual-in_err-cells.ensures.1 in
    rw (p.1, p.2) (lacks_pair (List NumberedCell × ℕ) (Option StoreText) f.form c.args.region f.from f.to f.count c.args.bytes.now c.in_err-cells.field-0.0
    (c.is_there.ensures.0 c.if-not-is_there.false) c.in-Ok.ensures.right c.in-Ok.ensures.head.form_is c.in-Ok.ensures.fields c.in_err-cells.ensures.damaged)

pub returns-then-end-bytes-clause-damaged : goal.returns-then-end-bytes-clause-damaged
returns-then-end-bytes-clause-damaged c =
    let f = c.in-Ok.fields in
    has_more f.form c.args.region f.from f.to f.count c.in_ok-cells.end c.args.bytes.now c.in_ok-cells.cells
    (c.is_there.ensures.0 c.if-not-is_there.false) c.in-Ok.ensures.right c.in-Ok.ensures.head.form_is c.in-Ok.ensures.fields c.in_ok-cells.ensures.cells.0 c.in_ok-cells.ensures.cells.1 c.if-end-bytes.true

pub returns-clause-text : goal.returns-clause-text
returns-clause-text c =
    let f = c.in-Ok.fields in
    let there = c.is_there.ensures.0 c.if-not-is_there.false in
    let s : Store = record { region = c.args.region; scope = f.scope; family = c.in_ok-family.family; from = f.from; to = f.to; cells = c.in_ok-cells.cells } in
    let head : IsHead f.form c.args.region c.args.bytes.now f.scope c.in_ok-family.family = subst (λ (x : List ℕ). IsHead f.form c.args.region c.args.bytes.now f.scope x) (sym c.in_ok-family.ensures) c.in-Ok.ensures.head in (
      there,
      text_from f.form s f.count c.in_ok-cells.end c.args.bytes.now (λ i. omega (arith, c.type_inv.bytes i)) (omega (arith, c.ranges.region.fits)) there head c.in-Ok.ensures.fields c.in_ok-cells.ensures.cells.0 c.in_ok-cells.ensures.cells.1 c.if-end-bytes.false,
    )
