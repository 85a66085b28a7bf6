use Rattle.std.proofs.Common.{◌≡◌, List, ℕ, length, sym, subst, ◌∙◌, ap, arith}
use Rattle.std.proofs.lemmas.Slice.{between_to_end}
use Rattle.cell_model.specs.Cell.{Cell, Fronts}
use Rattle.store_file.proofs.Pairs.{number_of, pair_from, cell_of}
use Rattle.store_file.proofs.reading.pair_at.Goals as goal

pub returns-then-number-from : goal.returns-then-number-from
returns-then-number-from c x rest p =
    omega (arith, c.then-number-from.either, c.u64_at-number.ensures, number_of c.args.form c.args.family.now c.args.from c.args.to c.args.bytes.now x rest (omega arith) p, p.from_le, p.to_le)

pub returns-in_default : goal.returns-in_default
returns-in_default c x rest p =
    let bytes = c.args.bytes.now in
    let fronts = cell_of c.args.form c.args.family.now c.args.from c.args.to bytes x rest p in
    c.in_default.ensures.only x.1 (subst (λ (b : List ℕ). Fronts c.args.form b x.1) (sym (between_to_end bytes 8 (length bytes) (omega arith))) fronts)

pub returns-then-not-is_of : goal.returns-then-not-is_of
returns-then-not-is_of c x rest p =
    let bytes = c.args.bytes.now in
    let fronts = subst (λ (b : List ℕ). Fronts c.args.form b x.1) (sym (between_to_end bytes 8 (length bytes) (omega arith))) (cell_of c.args.form c.args.family.now c.args.from c.args.to bytes x rest p) in
    let same = c.in-Ok.ensures.only x.1 fronts in
    let own : c.cell.inside.family.now ≡ x.1.family = ap (λ (y : Cell). y.family) (c.cell.view_is ∙ same.0) in
    let told = c.is_of.ensures.1 (λ some. own ∙ p.family_is some) in
    absurd (cc (told, c.if-not-is_of.true))

pub returns : goal.returns
returns c =
    let bytes = c.args.bytes.now in
    let fronts = subst (λ (b : List ℕ). Fronts c.args.form b c.in-Ok.cell) (between_to_end bytes 8 (length bytes) (omega arith)) c.in-Ok.ensures.exact.0 in
    let own : c.cell.inside.family.now ≡ c.in-Ok.cell.family = ap (λ (y : Cell). y.family) c.cell.view_is in
    pair_from c.args.form c.args.family.now c.args.from c.args.to bytes c.u64_at-number.result c.in-Ok.cell c.in-Ok.len (λ i. omega (arith, c.type_inv.bytes i)) c.if-bytes-lt8.false c.u64_at-number.ensures c.if-number-from.false c.if-number-to.false fronts
    (λ some. sym own ∙ c.is_of.ensures.0 c.if-not-is_of.false some) c.in-Ok.ensures.exact.1
