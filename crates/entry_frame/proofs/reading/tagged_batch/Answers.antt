use Rattle.std.proofs.Common.{◌≡◌, ◌+◌, ℕ, List, length, drop, slice_index, slice_range, arith, sym, ap, ◌∙◌, refl, subst, false}
use Rattle.std.specs.List.{between}
use Rattle.std.proofs.lemmas.Slice.{between_to_end}
use Rattle.cell_model.specs.Batch.{are_untagged}
use Rattle.cell_model.specs.declared.form.Form.TheVariants.{Tagged}
use Rattle.entry_frame.specs.Body.{IsCounted}
use Rattle.entry_frame.proofs.BodyLaws.{tagged_read, no_tagged}
use Rattle.entry_frame.proofs.reading.tagged_batch.Goals.{else-len-eq0-via-then-len-eq0+else-untagged, else-len-eq0-via-else-len-eq0}
use Rattle.entry_frame.proofs.reading.tagged_batch.Goals as goal

pub returns-then-untagged : goal.returns-then-untagged
returns-then-untagged c = λ b is.
    let found = c.in-Some.ensures in
    let zero : slice_index c.args.bytes.now 20 ≡ 0 = c.if-len-eq0.true in
    no_tagged c.args.bytes.now found.0 b zero (subst (λ (n : ℕ). IsCounted Tagged c.args.bytes.now n found.0) (ap (λ (n : ℕ). 21 + n) zero) found.1) (sym found.3 ∙ c.if-untagged.true) is

pub returns : goal.returns
returns c =
    let bytes : List ℕ = c.args.bytes.now in
    let len : ℕ = slice_index bytes 20 in
    let found = c.in-Some.ensures in
    let some : len ≡ 0 → are_untagged found.0 ≡ false = λ zero. elim c.else-len-eq0.branch as (λ _. are_untagged found.0 ≡ false) [
      | else-len-eq0-via-then-len-eq0+else-untagged w ↦ sym found.3 ∙ w.if-untagged.false
      | else-len-eq0-via-else-len-eq0 w ↦ absurd (w.if-len-eq0.false zero)
    ] in
    let part : between (21 + len + 4) (length bytes) bytes ≡ drop (21 + len + 4) bytes = between_to_end bytes (21 + len + 4) (length bytes) (omega arith) in
    (record { table = slice_range bytes 21 (21 + len); cells = found.0 }, tagged_read bytes len found.0 refl (omega (arith, c.type_inv.bytes 20)) (omega arith) found.1 some, refl, found.2, part ∙ found.1.cells)
