use Rattle.std.proofs.Common.{◌≡◌, ◌≢◌, ℕ, List, [], length, refl, sym, ap, ◌∙◌, Option, Some, None}
use Rattle.kv_cell.specs.declared.error.BatchError.{BatchError}
use Rattle.kv_cell.specs.declared.error.BatchError.TheVariants as errors
use Rattle.kv_cell.specs.Refusal.{IsBatchRefusal}
use Rattle.std.proofs.lemmas.Bool.{eqb-true}
use Rattle.std.proofs.lemmas.List.{nil_from_length}
use Rattle.cell_model.specs.Cell.{Cell}
use Rattle.cell_model.specs.Batch.{Batch, batch_of, first_batch_limit}
use Rattle.log_model.specs.Entry.{Entry}
use Rattle.entry_frame.specs.Frame.{IsRefOf}
use Rattle.entry_frame.specs.declared.frame.EntryRef.{EntryRef}
use Rattle.entry_frame.proofs.OwnLaws.{batch_has_no_limit, alone_is_batch, starts_in}
use Rattle.entry_frame.proofs.owning.own_batch.Goals as goal

-- with the name of the table the cells are the batch
named : (r : EntryRef) (e : Entry) (alone : Batch) (cells : List Cell) → IsRefOf r e → alone ≡ batch_of cells → cells ≡ e.batch.cells → record { table = r.table.now; cells = alone.cells } ≡ e.batch
named r e alone cells ref is same = λ i. record { table = ref.table i; cells = (ap (λ (b : Batch). b.cells) is ∙ same) i }

refused : (e : BatchError) (first : Option ℕ) → first ≡ None → e ≢ errors.Memory → IsBatchRefusal e first → ⊥
refused errors.Count first none memory is = cc (none, is)
refused errors.EntryLength first none memory is = cc (none, is)
refused errors.TableLength first none memory is = cc (none, is)
refused errors.Memory first none memory is = memory refl

pub own_cells-requires : goal.own_cells-requires
own_cells-requires c = starts_in c.form_of_kind.result c.args.entry.now c.requires.0 c.form_of_kind.ensures.value c.requires.1 c.requires.2

pub unreachable-requires : goal.unreachable-requires
unreachable-requires c =
    let e : Entry = c.requires.0 in
    let same : c.in_ok-cells.cells.items ≡ e.batch.cells = c.in_ok-cells.ensures (starts_in c.form_of_kind.result c.args.entry.now e c.form_of_kind.ensures.value c.requires.1 c.requires.2) in
    let none : first_batch_limit (batch_of e.batch.cells) ≡ None = batch_has_no_limit (batch_of e.batch.cells) (alone_is_batch e.batch c.requires.1.batch) in
    refused c.in_default.field-0 (first_batch_limit (batch_of c.in_ok-cells.cells.items)) (ap (λ (x : List Cell). first_batch_limit (batch_of x)) same ∙ none) c.in_default.ensures.no_memory c.in_default.ensures.exact

pub returns-then-is_empty : goal.returns-then-is_empty
returns-then-is_empty c = λ e is ref.
    let none : c.args.entry.now.table.now ≡ [] = nil_from_length c.args.entry.now.table.now (eqb-true (length c.args.entry.now.table.now) 0 (sym c.is_empty.ensures ∙ c.if-is_empty.true)) in
    let same : c.in_ok-cells.cells.items ≡ e.batch.cells = c.in_ok-cells.ensures (starts_in c.form_of_kind.result c.args.entry.now e c.form_of_kind.ensures.value is ref) in
    c.in-Ok.ensures.ok ∙ (λ i. record { table = (sym none ∙ ref.table) i; cells = same i })

pub unreachable-requires-in-Err-Count : goal.unreachable-requires-in-Err-Count
unreachable-requires-in-Err-Count c =
    let e : Entry = c.requires.0 in
    let same = named c.args.entry.now e c.in-Ok.batch c.in_ok-cells.cells.items c.requires.2 c.in-Ok.ensures.ok (c.in_ok-cells.ensures (starts_in c.form_of_kind.result c.args.entry.now e c.form_of_kind.ensures.value c.requires.1 c.requires.2)) in
    let told : first_batch_limit (record { table = c.args.entry.now.table.now; cells = c.in-Ok.batch.cells }) ≡ Some 1 = rw c.in-Err-Count.field-0-is at c.in-Err-Count.ensures.exact in
    cc (ap first_batch_limit same, batch_has_no_limit e.batch c.requires.1.batch, told)

pub unreachable-requires-in-Err-TableLength : goal.unreachable-requires-in-Err-TableLength
unreachable-requires-in-Err-TableLength c =
    let e : Entry = c.requires.0 in
    let same = named c.args.entry.now e c.in-Ok.batch c.in_ok-cells.cells.items c.requires.2 c.in-Ok.ensures.ok (c.in_ok-cells.ensures (starts_in c.form_of_kind.result c.args.entry.now e c.form_of_kind.ensures.value c.requires.1 c.requires.2)) in
    let told : first_batch_limit (record { table = c.args.entry.now.table.now; cells = c.in-Ok.batch.cells }) ≡ Some 3 = rw c.in-Err-TableLength.field-0-is at c.in-Err-TableLength.ensures.exact in
    cc (ap first_batch_limit same, batch_has_no_limit e.batch c.requires.1.batch, told)

pub unreachable-requires-in-Err-EntryLength : goal.unreachable-requires-in-Err-EntryLength
unreachable-requires-in-Err-EntryLength c =
    let e : Entry = c.requires.0 in
    let same = named c.args.entry.now e c.in-Ok.batch c.in_ok-cells.cells.items c.requires.2 c.in-Ok.ensures.ok (c.in_ok-cells.ensures (starts_in c.form_of_kind.result c.args.entry.now e c.form_of_kind.ensures.value c.requires.1 c.requires.2)) in
    let told : first_batch_limit (record { table = c.args.entry.now.table.now; cells = c.in-Ok.batch.cells }) ≡ Some 2 = rw c.in-Err-EntryLength.field-0-is at c.in-Err-EntryLength.ensures.exact in
    cc (ap first_batch_limit same, batch_has_no_limit e.batch c.requires.1.batch, told)

pub returns-in-Ok-of_table : goal.returns-in-Ok-of_table
returns-in-Ok-of_table c = λ e is ref.
    c.in-Ok-of_table.ensures.ok ∙ named c.args.entry.now e c.in-Ok.batch c.in_ok-cells.cells.items ref c.in-Ok.ensures.ok (c.in_ok-cells.ensures (starts_in c.form_of_kind.result c.args.entry.now e c.form_of_kind.ensures.value is ref))
