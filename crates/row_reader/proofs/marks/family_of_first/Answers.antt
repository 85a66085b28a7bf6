use Rattle.std.proofs.Common.{◌∙◌}
use Rattle.std.proofs.lemmas.List.Sorted.{IsNonDecreasingBy-from_sort}
use Rattle.row_reader.proofs.Families.{sorted_alike}
use Rattle.row_reader.proofs.marks.family_of_first.Goals as goal

pub invariant_of-result : goal.invariant_of-result
invariant_of-result c = IsNonDecreasingBy-from_sort (λ x. x) c.sort_unstable.new.self.items c.sort_unstable.ensures.sorted

pub returns : goal.returns
returns c before after x p split here row family =
    sorted_alike c.in_ok-through.through c.in_ok-through.exact.items c.sort_unstable.new.self.items p.1.ts c.sort_unstable.ensures.permutation
    ∙ c.in_ok-through.ensures before after x p split here row family
