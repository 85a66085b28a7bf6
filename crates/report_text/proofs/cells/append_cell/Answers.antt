use Rattle.std.proofs.Common.{◌≡◌, ap, ◌∙◌, refl}
use Rattle.cell_model.specs.Cell.{Cell}
use Rattle.report_text.proofs.LineLaws.{cell_appended}
use Rattle.report_text.proofs.cells.append_cell.Goals as goal

pub returns-clause-ok : goal.returns-clause-ok
returns-clause-ok c =
    let cell : Cell = c.args.cell.now in
    let row : c.as_slice-row.result.now ≡ cell.row = c.as_slice-row.ensures ∙ ap (λ (v : Cell). v.row) c.cell.view_is in
    let family : c.as_slice-family.result.now ≡ cell.family = c.as_slice-family.ensures ∙ ap (λ (v : Cell). v.family) c.cell.view_is in
    let qualifier : c.as_slice-qualifier.result.now ≡ cell.qualifier = c.as_slice-qualifier.ensures ∙ ap (λ (v : Cell). v.qualifier) c.cell.view_is in
    let value : c.as_slice-value.result.now ≡ cell.value = c.as_slice-value.ensures ∙ ap (λ (v : Cell). v.value) c.cell.view_is in
    let tags : c.as_slice-tags.result.now ≡ cell.tags = c.as_slice-tags.ensures ∙ ap (λ (v : Cell). v.tags) c.cell.view_is in
    cell_appended c.args.number cell c.args.out.now.items c.append_number.new.out.items c.append_columns.new.out.items c.append_stamp.new.out.items c.append_tags.new.out.items c.append.new.out.items
    c.in_ok-append_number.ensures.ok
    (c.in_ok-append_columns.ensures.ok ∙ rw (row, family, qualifier) refl)
    (c.in_ok-append_stamp.ensures.ok ∙ rw (value, ap (λ (v : Cell). v.ts) c.cell.view_is, ap (λ (v : Cell). v.kind) c.cell.view_is) refl)
    (c.in_ok-append_tags.ensures.ok ∙ rw tags refl)
    c.in_ok-append.ensures.ok
