use Rattle.std.proofs.Common.{◌≡◌}
use Rattle.std.specs.List.{AllByRecursion}
use Rattle.cell_model.specs.Cell.{IsCell}
use Rattle.mem_segments.proofs.ordering.numbered_rows.Given as goal

abbrev pub invariant-loop-number : goal.invariant-loop-number
invariant-loop-number l = (l.rows.items ≡ l.yielded) × AllByRecursion (λ x. IsCell x.1) l.yielded
