use Rattle.std.proofs.Common.{◌≡◌, ℕ, ◌+◌, ◌-◌, List, length, sym, ap, subst, slice_range, arith}
use Rattle.cell_model.specs.Cell.{Cell, Fronts, spelled_length}
use Rattle.cell_model.specs.declared.form.Form.TheVariants.{Tagged}
use Rattle.cell_model.proofs.CellLaws.{tagged_in_plain, few_bytes, long_tags, cut_tags, with_tags, tagged_from_plain, length-part}
use Rattle.kv_cell.proofs.reading.read_tagged.Goals as goal

pub returns-in-Err : goal.returns-in-Err
returns-in-Err c = tagged_in_plain c.args.bytes.now c.in-Err.fault.at c.in-Err.ensures

pub returns-then-n-tags_at : goal.returns-then-n-tags_at
returns-then-n-tags_at c = few_bytes c.args.bytes.now c.in-Ok.front.0 c.in-Ok.front.1 c.in-Ok.ensures.0 c.in-Ok.ensures.1 c.if-n-tags_at.true

pub returns-then-tags-gt4096 : goal.returns-then-tags-gt4096
returns-then-tags-gt4096 c =
    long_tags c.args.bytes.now c.in-Ok.front.0 c.in-Ok.front.1 c.u16_at-tags.result c.in-Ok.ensures.0 c.in-Ok.ensures.1 c.u16_at-tags.ensures (omega arith) c.if-tags-gt4096.true

pub returns-then-n-end : goal.returns-then-n-end
returns-then-n-end c =
    cut_tags c.args.bytes.now c.in-Ok.front.0 c.in-Ok.front.1 c.u16_at-tags.result c.in-Ok.ensures.0 c.in-Ok.ensures.1 c.u16_at-tags.ensures (omega arith) (omega arith) (omega arith)

pub returns : goal.returns
returns c =
    let bytes : List ℕ = c.args.bytes.now in
    let L : ℕ = c.in-Ok.front.1 in
    let t : ℕ = c.u16_at-tags.result in
    let tags : List ℕ = slice_range bytes (L + 2) (L + 2 + t) in
    let front : Fronts Tagged bytes (with_tags c.in-Ok.front.0 tags) =
    tagged_from_plain bytes c.in-Ok.front.0 L t (λ i. omega (arith, c.type_inv.bytes i)) c.in-Ok.ensures.0 (sym c.in-Ok.ensures.1) (sym c.u16_at-tags.ensures) (record { two = omega arith; within = omega arith; whole = omega arith }) in
    let size : length tags ≡ L + 2 + t - (L + 2) = length-part (L + 2) (L + 2 + t) bytes (omega arith) in
    subst (λ (x : Cell). Fronts Tagged bytes x × (L + 2 + t ≡ spelled_length Tagged x)) (ap (λ (x : Cell). with_tags x tags) (sym c.cell.view_is)) (front, omega (arith, size, c.in-Ok.ensures.1))
