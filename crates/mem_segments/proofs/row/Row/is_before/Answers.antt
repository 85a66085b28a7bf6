use Rattle.std.proofs.Common.{◌≡◌, List, ℕ, ap, ◌∙◌}
use Rattle.std.specs.Ordering.{nat_cmp, is_lt}
use Rattle.std.specs.Cmp.Lexicographic.{slice_cmp}
use Rattle.cell_model.specs.Cell.{Cell}
use Rattle.mem_segments.proofs.row.Row.is_before.Goals as goal

pub returns : goal.returns
returns c =
    let row : c.as_slice.result.now ≡ c.args.self.now.1.row = c.as_slice.ensures ∙ ap (λ (v : Cell). v.row) (c.behind-self.view_is ∙ c.cell.ensures) in
    c.is_lt.ensures ∙ ap is_lt (c.cmp.ensures ∙ ap (λ (r : List ℕ). slice_cmp nat_cmp r c.args.bound.now) row)
