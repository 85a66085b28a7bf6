use Rattle.std.proofs.Common.{◌≡◌, false, ℕ, slice_index, sym, ◌∙◌, arith}
use Rattle.std.specs.Prelude.{not, ◌==◌}
use Rattle.std.proofs.lemmas.Bool.Decides.{nat_tests}
use Rattle.store_file.proofs.FieldLaws.{tagged_right}
use Rattle.store_file.proofs.reading.read_tagged.Goals.{then-bytes-eq1, else-bytes-eq1}
use Rattle.store_file.proofs.reading.read_tagged.Goals as goal

is_zero : (n : ℕ) → not (n == 0) ≡ false → n ≡ 0
is_zero n e = grind (arith, nat_tests)

pub returns : goal.returns
returns c =
    let whole : slice_index c.args.bytes.now 9 ≡ 1 → slice_index c.args.bytes.now 10 ≡ 0 = λ one. elim c.if-bytes-eq1.branch as (λ _. slice_index c.args.bytes.now 10 ≡ 0) [
      | then-bytes-eq1 w ↦ is_zero (slice_index c.args.bytes.now 10) (sym w.value-is ∙ c.if-bytes-ne0.false)
      | else-bytes-eq1 w ↦ absurd (w.if-bytes-eq1.false one)
    ] in
    tagged_right c.args.region c.args.bytes.now c.in_ok-from.from c.in_ok-from.to c.in_ok-from.count c.requires.word (omega (arith, c.u32_at.ensures, c.if-u32_at-region.false)) (omega arith) (omega arith) whole (omega arith)
    c.in_ok-from.ensures
