use Rattle.std.proofs.Common.{◌≡◌, ℕ, List, ◌++◌, true, refl, ap, ◌∙◌}
use Rattle.std.specs.List.{flat_map}
use Rattle.cell_model.specs.Cell.{Cell}
use Rattle.log_model.specs.Entry.{Entry}
use Rattle.script_model.specs.Report.{cell_line}
use Rattle.script_model.specs.Outputs.{table_line}
use Rattle.ship_queue.specs.Messages.{placed}
use Rattle.ship_command.specs.Sinks.{ship_line, cells_text}
use Rattle.ship_command.proofs.Cuts.{cut_here, cut_then, cut_to, cut_begun, cut_sent, went_on}
use Rattle.ship_command.proofs.entries.write_entry.Goals as goal

pub returns-in_err-put_head-clause-cut : goal.returns-in_err-put_head-clause-cut
returns-in_err-put_head-clause-cut g c told err =
    let head : List ℕ = ship_line (placed c.args.at c.args.entry.now) in
    let table : List ℕ = table_line c.args.entry.now.batch.table in
    let cells : List ℕ = cells_text c.args.entry.now in
    cut_begun c.new-held.ensures (cut_here head (table ++ cells) (c.in_err-put_head.ensures.cut told (refl {a = true})))

pub returns-in_err-put_table-clause-cut : goal.returns-in_err-put_table-clause-cut
returns-in_err-put_table-clause-cut g c told err =
    let head : List ℕ = ship_line (placed c.args.at c.args.entry.now) in
    let table : List ℕ = table_line c.args.entry.now.batch.table in
    let cells : List ℕ = cells_text c.args.entry.now in
    let named : c.table.result.now ≡ c.args.entry.now.batch.table = c.table.ensures.value ∙ ap (λ (e : Entry). e.batch.table) c.entry.view_is in
    cut_begun c.new-held.ensures (cut_then head (table ++ cells) (c.in_ok-put_head.ensures.ok told)
    (cut_here table cells (cut_to (c.in_err-put_table.ensures.cut told (refl {a = true})) (ap (λ (l : List ℕ). table_line l) named))))

pub returns-in_err-put_cells-clause-cut : goal.returns-in_err-put_cells-clause-cut
returns-in_err-put_cells-clause-cut g c told err =
    let head : List ℕ = ship_line (placed c.args.at c.args.entry.now) in
    let table : List ℕ = table_line c.args.entry.now.batch.table in
    let cells : List ℕ = cells_text c.args.entry.now in
    let named : c.table.result.now ≡ c.args.entry.now.batch.table = c.table.ensures.value ∙ ap (λ (e : Entry). e.batch.table) c.entry.view_is in
    let listed : c.as_slice.result.now ≡ c.args.entry.now.batch.cells = c.as_slice.ensures.value ∙ ap (λ (e : Entry). e.batch.cells) c.entry.view_is in
    let held : List ℕ = g.K.Sink.taken c.put_head.new.out ++ c.put_head.new.held.items in
    cut_begun c.new-held.ensures (cut_then head (table ++ cells) (c.in_ok-put_head.ensures.ok told)
    (cut_then table cells (c.in_ok-put_table.ensures.ok told ∙ ap (λ (l : List ℕ). held ++ table_line l) named)
    (cut_to (c.in_err-put_cells.ensures.cut told (refl {a = true})) (ap (λ (e : Entry). flat_map (λ (x : Cell). cell_line (e.number, x)) c.as_slice.result.now) c.entry.view_is ∙ ap (λ (l : List Cell). flat_map (λ (x : Cell). cell_line (c.args.entry.now.number, x)) l) listed))))

pub returns-clause-cut : goal.returns-clause-cut
returns-clause-cut g c told err =
    let head : List ℕ = ship_line (placed c.args.at c.args.entry.now) in
    let table : List ℕ = table_line c.args.entry.now.batch.table in
    let cells : List ℕ = cells_text c.args.entry.now in
    let named : c.table.result.now ≡ c.args.entry.now.batch.table = c.table.ensures.value ∙ ap (λ (e : Entry). e.batch.table) c.entry.view_is in
    let listed : c.as_slice.result.now ≡ c.args.entry.now.batch.cells = c.as_slice.ensures.value ∙ ap (λ (e : Entry). e.batch.cells) c.entry.view_is in
    let before : List ℕ = g.K.Sink.taken c.args.out.now ++ c.new-held.result.items in
    let first : List ℕ = g.K.Sink.taken c.put_head.new.out ++ c.put_head.new.held.items in
    let second : List ℕ = g.K.Sink.taken c.put_table.new.out ++ c.put_table.new.held.items in
    cut_begun c.new-held.ensures
    (cut_sent
    (went_on before head (table ++ cells) (c.in_ok-put_head.ensures.ok told)
    (went_on first table cells (c.in_ok-put_table.ensures.ok told ∙ ap (λ (l : List ℕ). first ++ table_line l) named)
    (c.in_ok-put_cells.ensures.ok told ∙ ap (λ (e : Entry). second ++ flat_map (λ (x : Cell). cell_line (e.number, x)) c.as_slice.result.now) c.entry.view_is
    ∙ ap (λ (l : List Cell). second ++ flat_map (λ (x : Cell). cell_line (c.args.entry.now.number, x)) l) listed)))
    (c.send.ensures.cut told err))
