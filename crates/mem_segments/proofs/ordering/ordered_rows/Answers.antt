use Rattle.std.proofs.Common.{subst}
use Rattle.std.specs.List.Sorted.{IsPermutation}
use Rattle.std.proofs.lemmas.List.Sorted.{IsPermutation-refl}
use Rattle.cell_model.specs.Merge.{IsRising}
use Rattle.mem_segments.proofs.Permuting.{permuted_content}
use Rattle.mem_segments.proofs.ordering.ordered_rows.Goals as goal

pub returns-then-are_rising-clause-content : goal.returns-then-are_rising-clause-content
returns-then-are_rising-clause-content c =
    permuted_content c.args.rows.items c.args.rows.items (IsPermutation-refl c.args.rows.items) (subst IsRising c.deref.ensures.value (c.are_rising.ensures c.if-are_rising.true))

pub returns-then-are_rising-2-clause-content : goal.returns-then-are_rising-2-clause-content
returns-then-are_rising-2-clause-content c =
    permuted_content c.args.rows.items c.in_ok-sorted.sorted.items (subst (λ xs. IsPermutation xs c.in_ok-sorted.sorted.items) c.deref-2.ensures.value c.in_ok-sorted.ensures) (subst IsRising c.deref-3.ensures.value (c.are_rising-2.ensures c.if-are_rising-2.true))
