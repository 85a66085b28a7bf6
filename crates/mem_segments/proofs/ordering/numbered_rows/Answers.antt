use Rattle.std.proofs.Common.{List, [], ◌∷◌, ◌++◌, ◌∙◌}
use Rattle.std.specs.List.{AllByRecursion}
use Rattle.cell_model.specs.Cell.{IsCell}
use Rattle.cell_model.specs.Order.{NumberedCell}
use Rattle.mem_segments.proofs.ordering.numbered_rows.Goals as goal

all_more : (xs : List NumberedCell) (x : NumberedCell) → AllByRecursion (λ (y : NumberedCell). IsCell y.1) xs → IsCell x.1 → AllByRecursion (λ (y : NumberedCell). IsCell y.1) (xs ++ x ∷ [])
all_more [] x h is = (is, tt)
all_more (y ∷ xs) x h is = (h.0, all_more xs x h.1 is)

pub loop-number-preserved : goal.loop-number-preserved
loop-number-preserved c = (
  c.in_ok-push_new.ensures.items ∙ (λ i. c.loop-number.invariant.0 i ++ (c.in-Some.number, c.in-Some.cell) ∷ []),
  all_more c.loop-number.yielded (c.in-Some.number, c.in-Some.cell) c.loop-number.invariant.1 c.in_ok-push_new.ensures.within,
)
