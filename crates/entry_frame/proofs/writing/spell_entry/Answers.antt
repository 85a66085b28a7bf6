use Rattle.std.proofs.Common.{◌≡◌, ℕ, ◌+◌, ◌<◌, List, [], ◌∷◌, ◌++◌, length, take, get_or, ap, sym, subst, ◌∙◌}
use Rattle.std.specs.List.{flat_map}
use Rattle.std.proofs.lemmas.List.{take_all, take_more, append-nil, append_assoc}
use Rattle.std.proofs.lemmas.List.Concat.{flat_map-append}
use Rattle.byteorder.specs.Endian.{big_bytes}
use Rattle.cell_model.specs.Cell.{Cell, spelled}
use Rattle.cell_model.specs.declared.form.Form.{Form}
use Rattle.cell_model.specs.declared.form.Form.TheVariants.{Plain}
use Rattle.cell_model.specs.Batch.{Batch, batch_form}
use Rattle.cell_model.proofs.BatchLaws.{plain_batch_of, all_untagged, untagged_at}
use Rattle.log_model.specs.Entry.{Entry, kind_of, entry_form, table_text}
use Rattle.log_model.proofs.FrameLaws.{framed, length-body}
use Rattle.entry_frame.proofs.writing.spell_entry.Goals as goal

-- a cell of a plain batch has no tags
no_tags : (b : Batch) (cells : List Cell) (i : ℕ) (c : Cell) → batch_form b ≡ Plain → cells ≡ b.cells → i < length cells → c ≡ get_or cells i c → c.tags ≡ []
no_tags b cells i c plain same lt is =
    ap (λ (x : Cell). x.tags) (is ∙ ap (λ (xs : List Cell). get_or xs i c) same)
    ∙ untagged_at b.cells i c (all_untagged b.cells (plain_batch_of b plain).1) (subst (λ (xs : List Cell). i < length xs) same lt)

spelled_more : (form : Form) (cells : List Cell) (i : ℕ) (c : Cell) (head old new : List ℕ) → i < length cells → c ≡ get_or cells i c → old ≡ head ++ flat_map (spelled form) (take i cells) → new ≡ old ++ spelled form c
    → new ≡ head ++ flat_map (spelled form) (take (i + 1) cells)
spelled_more form cells i c head old new lt is before more =
    more ∙ ap (λ (x : List ℕ). x ++ spelled form c) before ∙ append_assoc head (flat_map (spelled form) (take i cells)) (spelled form c)
    ∙ ap (λ (x : List ℕ). head ++ x)
    (ap (λ (x : List ℕ). flat_map (spelled form) (take i cells) ++ x) (ap (spelled form) is ∙ sym (append-nil (spelled form (get_or cells i c))))
    ∙ sym (flat_map-append (spelled form) (take i cells) (get_or cells i c ∷ [])) ∙ ap (flat_map (spelled form)) (sym (take_more cells i c lt)))

pub encode_in-requires : goal.encode_in-requires
encode_in-requires c = λ plain. no_tags c.args.batch.now c.as_slice-cells.result.now c.loop-cell.cell-index c.cell-item.result (sym c.form-form.ensures.value ∙ plain) c.as_slice-cells.ensures.value c.loop-cell-test.true c.cell-item.is

pub loop-cell-preserved : goal.loop-cell-preserved
loop-cell-preserved c = spelled_more c.form-form.result c.as_slice-cells.result.now c.loop-cell.cell-index c.cell-item.result c.put_u32-3.new.out.items c.loop-cell.bytes.items c.encode_in.new.out.items c.loop-cell-test.true c.cell-item.is c.loop-cell.invariant c.in_ok-encode_in.ensures.ok

pub returns-clause-spelled : goal.returns-clause-spelled
returns-clause-spelled c =
    let e : Entry = record { region = c.args.region; number = c.args.number; time = c.args.time; batch = c.args.batch.now } in
    let cells : c.as_slice-cells.result.now ≡ c.args.batch.now.cells = c.as_slice-cells.ensures.value in
    let form : c.form-form.result ≡ entry_form e = c.form-form.ensures.value in
    let all : take c.loop-cell.cell-index c.as_slice-cells.result.now ≡ c.args.batch.now.cells = take_all c.loop-cell.cell-index c.as_slice-cells.result.now c.loop-cell-test.false ∙ cells in
    framed e c.reserve.new.self.items c.put.new.out.items c.put_u32.new.out.items c.put_u32-2.new.out.items c.put_u64.new.out.items c.put_u64-2.new.out.items c.put_table.new.out.items c.put_u32-3.new.out.items c.loop-cell.bytes.items
    (c.reserve.ensures.items ∙ c.new-bytes.ensures.items)
    (c.put.ensures.items ∙ ap (λ (k : ℕ). c.reserve.new.self.items ++ k ∷ []) (c.kind_of.ensures ∙ ap kind_of form))
    (c.put_u32.ensures.items ∙ ap (λ (n : ℕ). c.put.new.out.items ++ big_bytes 4 n) (c.body_len-len.ensures.len ∙ sym (length-body e)))
    c.put_u32-2.ensures.items
    c.put_u64.ensures.items
    c.put_u64-2.ensures.items
    (c.put_table.ensures.items ∙ (λ i. c.put_u64-2.new.out.items ++ table_text (form i) (c.table.ensures.value i)))
    (c.put_u32-3.ensures.items ∙ ap (λ (n : ℕ). c.put_table.new.out.items ++ big_bytes 4 n) (ap length cells))
    (c.loop-cell.invariant ∙ (λ i. c.put_u32-3.new.out.items ++ flat_map (spelled (form i)) (all i)))
