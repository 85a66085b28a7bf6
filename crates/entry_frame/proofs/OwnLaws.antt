-- Cells that are copied one after the other from where they stand.
use Rattle.std.proofs.Common.{◌≡◌, ℕ, zero, suc, ◌+◌, ◌<◌, List, [], ◌∷◌, ◌++◌, length, take, drop, None, sym, ap, ◌∙◌, arith, subst}
use Rattle.std.specs.List.{flat_map, AllByRecursion}
use Rattle.std.proofs.lemmas.Bool.Decides.{nat_tests}
use Rattle.std.proofs.lemmas.List.{append_assoc, append-nil, drop_at}
use Rattle.cell_model.specs.Cell.{Cell, HasForm, spelled, spelled_length, Fronts}
use Rattle.cell_model.specs.declared.form.Form.{Form}
use Rattle.cell_model.specs.Batch.{Batch, batch_of, IsBatch, first_batch_limit}
use Rattle.cell_model.proofs.CellLaws.{one_front, length-spelled}
use Rattle.cell_model.proofs.BatchLaws.{alone_is_less, each_has_form}
use Rattle.log_model.specs.Entry.{Entry, IsEntry, entry_form}
use Rattle.log_model.specs.Frame.{StartsCells}
use Rattle.entry_frame.specs.declared.frame.EntryRef.{EntryRef}
use Rattle.entry_frame.specs.Frame.{IsRefOf}
use Rattle.entry_frame.specs.Body.{form_of_kind}
use Rattle.entry_frame.proofs.BodyLaws.{form_is}

-- of the cells that stand in the bytes so many are copied, and the others stand in the rest
abbrev pub Copied : Form → List ℕ → ℕ → List Cell → List ℕ → ℕ → Type 0
Copied form bytes count items rest n = (cs : List Cell) → length cs ≡ count → AllByRecursion (HasForm form) cs → bytes ≡ flat_map (spelled form) cs ++ [] → (items ≡ take n cs) × (rest ≡ flat_map (spelled form) (drop n cs) ++ [])

-- a cell is there while not all are copied
pub cell_there : (form : Form) (cs : List Cell) (n : ℕ) (rest : List ℕ) → n < length cs → AllByRecursion (HasForm form) cs → rest ≡ flat_map (spelled form) (drop n cs) ++ [] → (c : Cell) × Fronts form rest c
cell_there form [] n rest lt all same = absurd (omega arith)
cell_there form (c ∷ cs) zero rest lt all same = (c, record { cell = all.0; rest = flat_map (spelled form) cs ++ []; is = same ∙ append_assoc (spelled form c) (flat_map (spelled form) cs) [] })
cell_there form (c ∷ cs) (suc n) rest lt all same = cell_there form cs n rest (omega arith) all.1 same

pub copy_next : (form : Form) (cs : List Cell) (n : ℕ) (d : Cell) (rest : List ℕ) → n < length cs → AllByRecursion (HasForm form) cs → rest ≡ flat_map (spelled form) (drop n cs) ++ [] → Fronts form rest d
    → (take n cs ++ d ∷ [] ≡ take (suc n) cs) × (drop (spelled_length form d) rest ≡ flat_map (spelled form) (drop (suc n) cs) ++ [])
copy_next form [] n d rest lt all same f = absurd (omega arith)
copy_next form (c ∷ cs) zero d rest lt all same f =
    let here : rest ≡ spelled form c ++ (flat_map (spelled form) cs ++ []) = same ∙ append_assoc (spelled form c) (flat_map (spelled form) cs) [] in
    let one : d ≡ c = one_front form rest d c f (record { cell = all.0; rest = flat_map (spelled form) cs ++ []; is = here }) in (
      ap (λ (x : Cell). x ∷ []) one,
      ap (λ (x : Cell). drop (spelled_length form x) rest) one ∙ ap (drop (spelled_length form c)) here ∙ drop_at (spelled form c) (flat_map (spelled form) cs ++ []) (spelled_length form c) (length-spelled form c),
    )
copy_next form (c ∷ cs) (suc n) d rest lt all same f = let h = copy_next form cs n d rest (omega arith) all.1 same f in (ap (λ (x : List Cell). c ∷ x) h.0, h.1)

pub copied_more : (form : Form) (bytes : List ℕ) (count : ℕ) (items : List Cell) (rest : List ℕ) (n : ℕ) (d own : Cell) → Copied form bytes count items rest n → n < count → Fronts form rest d → own ≡ d → Copied form bytes count (items ++ own ∷ []) (drop (spelled_length form d) rest) (n + 1)
copied_more form bytes count items rest n d own h lt f same = λ cs size all is.
    let now = h cs size all is in
    let one : suc n ≡ n + 1 = omega arith in
    let next = copy_next form cs n d rest (omega (arith, lt, size)) all now.1 f in (
      (λ i. now.0 i ++ same i ∷ []) ∙ next.0 ∙ ap (λ (k : ℕ). take k cs) one,
      next.1 ∙ ap (λ (k : ℕ). flat_map (spelled form) (drop k cs) ++ []) one,
    )

pub batch_has_no_limit : (b : Batch) → IsBatch b → first_batch_limit b ≡ None
unfolding first_batch_limit
batch_has_no_limit b is = grind (arith, nat_tests)

-- the same cells without a table's name are no longer
pub alone_is_batch : (b : Batch) → IsBatch b → IsBatch (batch_of b.cells)
alone_is_batch b is = record { given = is.given; count = is.count; each = is.each; table = omega arith; body = omega (arith, is.body, alone_is_less b) }

-- an entry's cells stand in its reference
abbrev pub starts_in : (form : Form) (r : EntryRef) (e : Entry) → form ≡ form_of_kind r.kind → IsEntry e → IsRefOf r e → StartsCells form r.cells.now r.count []
starts_in form r e told is ref =
    let same : entry_form e ≡ form = sym (told ∙ form_is (entry_form e) r.kind ref.kind) in
    record {
      cells = e.batch.cells;
      count = sym ref.count;
      each = subst (λ (f : Form). AllByRecursion (HasForm f) e.batch.cells) same (each_has_form e.batch is.batch.each);
      is = ref.cells ∙ ap (λ (f : Form). flat_map (spelled f) e.batch.cells) same ∙ sym (append-nil (flat_map (spelled form) e.batch.cells));
    }
