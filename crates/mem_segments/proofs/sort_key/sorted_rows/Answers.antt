use Rattle.std.proofs.Common.{map, sym, ap, ◌∙◌, subst}
use Rattle.std.specs.List.Sorted.{IsPermutation}
use Rattle.std.proofs.lemmas.List.Sorted.{IsPermutation-map}
use Rattle.cell_model.specs.Order.{NumberedCell}
use Rattle.mem_segments.specs.declared.sort_key.SortKey.{SortKey}
use Rattle.mem_segments.proofs.sort_key.sorted_rows.Goals as goal

pub returns : goal.returns
returns c =
    let row_of : SortKey → NumberedCell = λ key. key.row.now in
    let same = IsPermutation-map row_of c.in_ok-keys.keys.items c.sort_by.new.self.items c.sort_by.ensures.permutation in
    let sorted = c.in_ok-sorted.ensures ∙ ap (map row_of) c.deref.ensures.value in
    subst (λ xs. IsPermutation xs c.in_ok-sorted.sorted.items) c.in_ok-keys.ensures (subst (IsPermutation (map row_of c.in_ok-keys.keys.items)) (sym sorted) same)
