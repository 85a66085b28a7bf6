use Rattle.std.proofs.Common.{◌∙◌, ◌||◌, ◌==◌, sym, subst, ap}
use Rattle.std.specs.List.Sorted.{IsBinarySearchResult}
use Rattle.std.proofs.Common.{nat_cmp}
use Rattle.std.specs.List.{list_any}
use Rattle.row_reader.specs.Marks.{Marked}
use Rattle.row_reader.proofs.Families.{found}
use Rattle.row_reader.proofs.marks.Marks.cover.Goals as goal

pub returns-else-reach : goal.returns-else-reach
returns-else-reach c =
    c.is_ok.ensures.value
    ∙ found c.self.inside.exact.items c.args.ts c.binary_search.result
    (subst (λ xs. IsBinarySearchResult (λ y. nat_cmp y c.args.ts) xs c.binary_search.result) c.as_slice.ensures.value c.binary_search.ensures.position) c.self.invariant
    ∙ ap (λ (m : Marked). list_any (λ t. t == c.args.ts) m.exact) c.self.view_is
    ∙ ap (λ b. b || list_any (λ t. t == c.args.ts) c.args.self.now.exact) (sym (sym c.reach.ensures ∙ c.if-reach.false))
