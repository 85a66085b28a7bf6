use Rattle.std.proofs.Common.{◌≡◌, ◌++◌, ℕ, List, codes, true, ap, ◌∙◌, refl}
use Rattle.std.specs.Fmt.{decimal}
use Rattle.cell_model.specs.Cell.{Cell}
use Rattle.report_text.specs.Texts.{columns_text, stamp_text, tags_text}
use Rattle.report_text.proofs.LineLaws.{cell_appended}
use Rattle.ship_command.proofs.Cuts.{cut_here, cut_then, cut_as, cut_to, cell_is}
use Rattle.ship_command.proofs.cells.put_cell.Goals as goal

pub returns-clause-ok : goal.returns-clause-ok
returns-clause-ok g c told =
    let cell : Cell = c.args.cell.now in
    let row : c.as_slice-row.result.now ≡ cell.row = c.as_slice-row.ensures ∙ ap (λ (v : Cell). v.row) c.cell.view_is in
    let family : c.as_slice-family.result.now ≡ cell.family = c.as_slice-family.ensures ∙ ap (λ (v : Cell). v.family) c.cell.view_is in
    let qualifier : c.as_slice-qualifier.result.now ≡ cell.qualifier = c.as_slice-qualifier.ensures ∙ ap (λ (v : Cell). v.qualifier) c.cell.view_is in
    let value : c.as_slice-value.result.now ≡ cell.value = c.as_slice-value.ensures ∙ ap (λ (v : Cell). v.value) c.cell.view_is in
    let tags : c.as_slice-tags.result.now ≡ cell.tags = c.as_slice-tags.ensures ∙ ap (λ (v : Cell). v.tags) c.cell.view_is in
    cell_appended c.args.number cell (g.K.Sink.taken c.args.out.now ++ c.args.held.now.items) (g.K.Sink.taken c.put_number.new.out ++ c.put_number.new.held.items)
    (g.K.Sink.taken c.put_columns.new.out ++ c.put_columns.new.held.items) (g.K.Sink.taken c.put_stamp.new.out ++ c.put_stamp.new.held.items)
    (g.K.Sink.taken c.put_tags.new.out ++ c.put_tags.new.held.items) (g.K.Sink.taken c.put.new.out ++ c.put.new.held.items)
    (c.in_ok-put_number.ensures.ok told)
    (c.in_ok-put_columns.ensures.ok told ∙ rw (row, family, qualifier) refl)
    (c.in_ok-put_stamp.ensures.ok told ∙ rw (value, ap (λ (v : Cell). v.ts) c.cell.view_is, ap (λ (v : Cell). v.kind) c.cell.view_is) refl)
    (c.in_ok-put_tags.ensures.ok told ∙ rw tags refl)
    (c.in_ok-put.ensures.ok told)

pub returns-in_err-put_number-clause-cut : goal.returns-in_err-put_number-clause-cut
returns-in_err-put_number-clause-cut g c told err =
    let cell : Cell = c.args.cell.now in
    let number : List ℕ = codes "cell " ++ decimal c.args.number in
    let columns : List ℕ = columns_text cell.row cell.family cell.qualifier in
    let stamp : List ℕ = stamp_text cell.ts cell.kind cell.value in
    let tail : List ℕ = tags_text cell.tags ++ codes "\n" in
    cut_as (cell_is c.args.number cell)
    (cut_here number (columns ++ (stamp ++ tail)) (c.in_err-put_number.ensures.cut told (refl {a = true})))

pub returns-in_err-put_columns-clause-cut : goal.returns-in_err-put_columns-clause-cut
returns-in_err-put_columns-clause-cut g c told err =
    let cell : Cell = c.args.cell.now in
    let row : c.as_slice-row.result.now ≡ cell.row = c.as_slice-row.ensures ∙ ap (λ (v : Cell). v.row) c.cell.view_is in
    let family : c.as_slice-family.result.now ≡ cell.family = c.as_slice-family.ensures ∙ ap (λ (v : Cell). v.family) c.cell.view_is in
    let qualifier : c.as_slice-qualifier.result.now ≡ cell.qualifier = c.as_slice-qualifier.ensures ∙ ap (λ (v : Cell). v.qualifier) c.cell.view_is in
    let number : List ℕ = codes "cell " ++ decimal c.args.number in
    let columns : List ℕ = columns_text cell.row cell.family cell.qualifier in
    let stamp : List ℕ = stamp_text cell.ts cell.kind cell.value in
    let tail : List ℕ = tags_text cell.tags ++ codes "\n" in
    cut_as (cell_is c.args.number cell)
    (cut_then number (columns ++ (stamp ++ tail)) (c.in_ok-put_number.ensures.ok told)
    (cut_here columns (stamp ++ tail) (cut_to (c.in_err-put_columns.ensures.cut told (refl {a = true})) (rw (row, family, qualifier) refl))))

pub returns-in_err-put_stamp-clause-cut : goal.returns-in_err-put_stamp-clause-cut
returns-in_err-put_stamp-clause-cut g c told err =
    let cell : Cell = c.args.cell.now in
    let row : c.as_slice-row.result.now ≡ cell.row = c.as_slice-row.ensures ∙ ap (λ (v : Cell). v.row) c.cell.view_is in
    let family : c.as_slice-family.result.now ≡ cell.family = c.as_slice-family.ensures ∙ ap (λ (v : Cell). v.family) c.cell.view_is in
    let qualifier : c.as_slice-qualifier.result.now ≡ cell.qualifier = c.as_slice-qualifier.ensures ∙ ap (λ (v : Cell). v.qualifier) c.cell.view_is in
    let value : c.as_slice-value.result.now ≡ cell.value = c.as_slice-value.ensures ∙ ap (λ (v : Cell). v.value) c.cell.view_is in
    let number : List ℕ = codes "cell " ++ decimal c.args.number in
    let columns : List ℕ = columns_text cell.row cell.family cell.qualifier in
    let stamp : List ℕ = stamp_text cell.ts cell.kind cell.value in
    let tail : List ℕ = tags_text cell.tags ++ codes "\n" in
    cut_as (cell_is c.args.number cell)
    (cut_then number (columns ++ (stamp ++ tail)) (c.in_ok-put_number.ensures.ok told)
    (cut_then columns (stamp ++ tail) (c.in_ok-put_columns.ensures.ok told ∙ rw (row, family, qualifier) refl)
    (cut_here stamp tail (cut_to (c.in_err-put_stamp.ensures.cut told (refl {a = true})) (rw (value, ap (λ (v : Cell). v.ts) c.cell.view_is, ap (λ (v : Cell). v.kind) c.cell.view_is) refl)))))

pub returns-in_err-put_tags-clause-cut : goal.returns-in_err-put_tags-clause-cut
returns-in_err-put_tags-clause-cut g c told err =
    let cell : Cell = c.args.cell.now in
    let row : c.as_slice-row.result.now ≡ cell.row = c.as_slice-row.ensures ∙ ap (λ (v : Cell). v.row) c.cell.view_is in
    let family : c.as_slice-family.result.now ≡ cell.family = c.as_slice-family.ensures ∙ ap (λ (v : Cell). v.family) c.cell.view_is in
    let qualifier : c.as_slice-qualifier.result.now ≡ cell.qualifier = c.as_slice-qualifier.ensures ∙ ap (λ (v : Cell). v.qualifier) c.cell.view_is in
    let value : c.as_slice-value.result.now ≡ cell.value = c.as_slice-value.ensures ∙ ap (λ (v : Cell). v.value) c.cell.view_is in
    let tags : c.as_slice-tags.result.now ≡ cell.tags = c.as_slice-tags.ensures ∙ ap (λ (v : Cell). v.tags) c.cell.view_is in
    let number : List ℕ = codes "cell " ++ decimal c.args.number in
    let columns : List ℕ = columns_text cell.row cell.family cell.qualifier in
    let stamp : List ℕ = stamp_text cell.ts cell.kind cell.value in
    let tail : List ℕ = tags_text cell.tags ++ codes "\n" in
    cut_as (cell_is c.args.number cell)
    (cut_then number (columns ++ (stamp ++ tail)) (c.in_ok-put_number.ensures.ok told)
    (cut_then columns (stamp ++ tail) (c.in_ok-put_columns.ensures.ok told ∙ rw (row, family, qualifier) refl)
    (cut_then stamp tail (c.in_ok-put_stamp.ensures.ok told ∙ rw (value, ap (λ (v : Cell). v.ts) c.cell.view_is, ap (λ (v : Cell). v.kind) c.cell.view_is) refl)
    (cut_here (tags_text cell.tags) (codes "\n") (cut_to (c.in_err-put_tags.ensures.cut told (refl {a = true})) (rw tags refl))))))

pub returns-in_err-put-clause-cut : goal.returns-in_err-put-clause-cut
returns-in_err-put-clause-cut g c told err =
    let cell : Cell = c.args.cell.now in
    let row : c.as_slice-row.result.now ≡ cell.row = c.as_slice-row.ensures ∙ ap (λ (v : Cell). v.row) c.cell.view_is in
    let family : c.as_slice-family.result.now ≡ cell.family = c.as_slice-family.ensures ∙ ap (λ (v : Cell). v.family) c.cell.view_is in
    let qualifier : c.as_slice-qualifier.result.now ≡ cell.qualifier = c.as_slice-qualifier.ensures ∙ ap (λ (v : Cell). v.qualifier) c.cell.view_is in
    let value : c.as_slice-value.result.now ≡ cell.value = c.as_slice-value.ensures ∙ ap (λ (v : Cell). v.value) c.cell.view_is in
    let tags : c.as_slice-tags.result.now ≡ cell.tags = c.as_slice-tags.ensures ∙ ap (λ (v : Cell). v.tags) c.cell.view_is in
    let number : List ℕ = codes "cell " ++ decimal c.args.number in
    let columns : List ℕ = columns_text cell.row cell.family cell.qualifier in
    let stamp : List ℕ = stamp_text cell.ts cell.kind cell.value in
    let tail : List ℕ = tags_text cell.tags ++ codes "\n" in
    cut_as (cell_is c.args.number cell)
    (cut_then number (columns ++ (stamp ++ tail)) (c.in_ok-put_number.ensures.ok told)
    (cut_then columns (stamp ++ tail) (c.in_ok-put_columns.ensures.ok told ∙ rw (row, family, qualifier) refl)
    (cut_then stamp tail (c.in_ok-put_stamp.ensures.ok told ∙ rw (value, ap (λ (v : Cell). v.ts) c.cell.view_is, ap (λ (v : Cell). v.kind) c.cell.view_is) refl)
    (cut_then (tags_text cell.tags) (codes "\n") (c.in_ok-put_tags.ensures.ok told ∙ rw tags refl) (c.in_err-put.ensures.cut told (refl {a = true}))))))
